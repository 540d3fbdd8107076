-- `permutation_order::exchanged` meets its contract: each return by the tests that led there. Assumes nothing.
use borrow.Author.Tests.{eq-eqb, ne_eqb}
use Rattle.permutation_order.proofs.exchanged.Goals as goal

pub returns-then-j-i : goal.returns-then-j-i
returns-then-j-i c = simp (eq-eqb _ _ c.if-j-i.true)

pub returns-then-j-k : goal.returns-then-j-k
returns-then-j-k c = simp (ne_eqb _ _ c.if-j-i.false, eq-eqb _ _ c.if-j-k.true)

pub returns : goal.returns
returns c = simp (ne_eqb _ _ c.if-j-i.false, ne_eqb _ _ c.if-j-k.false)
