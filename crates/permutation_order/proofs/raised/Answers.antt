-- `permutation_order::raised` meets its contract: each return by the test that led there. Assumes nothing.
use native.Mathlib.Numerals.{add-one}
use borrow.Author.Tests.{lt-ltb, le-ltb}
use Rattle.permutation_order.proofs.raised.Goals as goal

pub returns-then-x-d : goal.returns-then-x-d
returns-then-x-d c = simp (lt-ltb _ _ c.if-x-d.true)

pub returns : goal.returns
returns c = simp (le-ltb _ _ c.if-x-d.false) (add-one _)
