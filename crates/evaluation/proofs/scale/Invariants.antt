-- `evaluation::scale` meets its contract: when a is next, the first a numbers are scaled. Assumes nothing.
use Rattle.evaluation.specs.Rows.{Scaled}
use Rattle.evaluation.proofs.scale.Given as goal

abbrev pub invariant-loop-a : goal.invariant-loop-a
invariant-loop-a l = Scaled l.a l.t l.initial.row l.row
