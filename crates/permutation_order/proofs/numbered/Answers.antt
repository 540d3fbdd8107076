-- `permutation_order::numbered` meets its contract: each return by the test that led there. Assumes nothing.
use borrow.Author.Tests.{lt-ltb, le-ltb}
use Rattle.permutation_order.specs.Rules.{numbered}
use Rattle.permutation_order.proofs.numbered.Goals as goal

pub returns-then-n-gt-LONGEST : goal.returns-then-n-gt-LONGEST
unfolding numbered
returns-then-n-gt-LONGEST c = simp (lt-ltb _ _ c.if-n-gt-LONGEST.true)

pub returns : goal.returns
unfolding numbered
returns c = simp (le-ltb _ _ c.if-n-gt-LONGEST.false) c.checked.ensures
