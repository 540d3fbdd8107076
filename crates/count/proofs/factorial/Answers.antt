-- `count::factorial` meets its contract: the table holds it. Assumes nothing.
use native.Mathlib.Omega.{arith}
use borrow.Author.Tests.{le-leb, lt-leb}
use Rattle.count.proofs.factorial.Goals as goal

pub returns-then-n-gt20 : goal.returns-then-n-gt20
returns-then-n-gt20 c = simp (lt-leb c.args.n 20 (omega arith))

pub returns : goal.returns
returns c = simp (le-leb c.args.n 20 (omega arith)) (c.factorials-table.ensures.at _ (omega arith))
