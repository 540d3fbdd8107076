-- `answers::from_parity` meets its contract: each return by the test that led there. Assumes nothing.
use borrow.Author.Tests.{eq-eqb, ne_eqb}
use Rattle.answers.proofs.from_parity.Goals as goal

pub returns-then-n-eq0 : goal.returns-then-n-eq0
returns-then-n-eq0 c = simp (eq-eqb _ _ c.if-n-eq0.true)

pub returns : goal.returns
returns c = simp (ne_eqb _ _ c.if-n-eq0.false)
