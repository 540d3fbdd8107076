-- `cartesian::shape_count` meets its contract. Assumes nothing.
use borrow.Author.Tests.{lt-ltb, le-ltb}
use Rattle.cartesian.proofs.shape_count.Goals as goal

pub returns-then-radices-gt16 : goal.returns-then-radices-gt16
returns-then-radices-gt16 c = simp (lt-ltb _ _ c.if-radices-gt16.true)

pub returns : goal.returns
returns c = simp (le-ltb _ _ c.if-radices-gt16.false) c.size.ensures
