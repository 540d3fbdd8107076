-- `requests::is_for` meets its contract: by the tests that lead to each return. Assumes nothing.
use borrow.Author.Tests.{eq-eqb, ne_eqb}
use Rattle.requests.proofs.is_for.Goals as goal

pub returns-then-kind-eq102 : goal.returns-then-kind-eq102
returns-then-kind-eq102 c = simp (eq-eqb _ _ c.if-letter-eq70.true, eq-eqb _ _ c.if-kind-eq102.true)

pub returns-then-letter-eq70 : goal.returns-then-letter-eq70
returns-then-letter-eq70 c = simp (eq-eqb _ _ c.if-letter-eq70.true, ne_eqb _ _ c.if-kind-eq102.false)

pub returns : goal.returns
returns c = simp (ne_eqb _ _ c.if-letter-eq70.false)
