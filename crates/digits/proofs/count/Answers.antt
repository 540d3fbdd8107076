-- `digits::count` meets its contract. Assumes nothing.
use borrow.Author.Tests.{lt-ltb, le-ltb}
use Rattle.digits.proofs.count.Goals as goal

pub returns-then-degree-gt64 : goal.returns-then-degree-gt64
returns-then-degree-gt64 c = simp (lt-ltb _ _ c.if-degree-gt64.true)

pub returns : goal.returns
returns c = simp (le-ltb _ _ c.if-degree-gt64.false) c.power.ensures
