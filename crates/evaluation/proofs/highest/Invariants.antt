-- `evaluation::highest` meets its contract. The invariant: top is the highest degree of the rows passed. Assumes nothing.
use mathlib.Core.Path.{◌≡◌}
use Rattle.evaluation.specs.Rows.{highest_degree}
use Rattle.evaluation.proofs.highest.Given as goal

abbrev pub invariant-loop-i : goal.invariant-loop-i
invariant-loop-i l = l.top ≡ highest_degree l.image l.i
