-- `count::binomial` meets its contract: the entry is the coefficient. Assumes nothing.
use mathlib.Core.Path.{◌∙◌}
use native.Mathlib.Omega.{arith}
use borrow.Author.Tests.{le-leb, lt-leb}
use Rattle.pascal.proofs.Row.{entry_is_choose}
use Rattle.count.proofs.binomial.Goals as goal

pub returns-then-n-gt64 : goal.returns-then-n-gt64
returns-then-n-gt64 c = simp (lt-leb c.args.n 64 (omega arith))

pub returns : goal.returns
returns c = simp (le-leb c.args.n 64 (omega arith)) (c.at.ensures ∙ entry_is_choose _ _)
