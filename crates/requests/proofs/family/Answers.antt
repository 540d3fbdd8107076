-- `requests::family` meets its contract: by the tests that lead to each return. Assumes nothing.
use borrow.Author.Tests.{eq-eqb, ne_eqb}
use lib.ListN.{get_or-eq_default}
use Rattle.requests.proofs.family.Goals as goal

pub returns-then-kinds-i-eq97 : goal.returns-then-kinds-i-eq97
returns-then-kinds-i-eq97 c = simp (eq-eqb _ _ c.if-kinds-i-eq97.true)

pub returns-else-kinds-i-eq97 : goal.returns-else-kinds-i-eq97
returns-else-kinds-i-eq97 c = simp (ne_eqb _ _ c.if-kinds-i-eq97.false)

pub returns-else-i-kinds : goal.returns-else-i-kinds
returns-else-i-kinds c = simp (get_or-eq_default c.args.kinds.now 0 {n = c.args.i} c.if-i-kinds.false)
