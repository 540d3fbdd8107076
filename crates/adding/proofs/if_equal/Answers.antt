-- `adding::if_equal` meets its contract. Assumes nothing.
use borrow.Author.Tests.{eq-eqb, ne_eqb}
use Rattle.adding.proofs.if_equal.Goals as goal

pub returns-then-x-y : goal.returns-then-x-y
returns-then-x-y c = simp (eq-eqb _ _ c.if-x-y.true)

pub returns : goal.returns
returns c = simp (ne_eqb _ _ c.if-x-y.false)
