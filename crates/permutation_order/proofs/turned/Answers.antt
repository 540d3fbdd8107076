-- `permutation_order::turned` meets its contract: each return by the test that led there. Assumes nothing.
use borrow.Author.Tests.{lt-ltb, le-ltb}
use Rattle.permutation_order.proofs.turned.Goals as goal

pub returns-then-j-k : goal.returns-then-j-k
returns-then-j-k c = simp (lt-ltb _ _ c.if-j-k.true)

pub returns : goal.returns
returns c = simp (le-ltb _ _ c.if-j-k.false)
