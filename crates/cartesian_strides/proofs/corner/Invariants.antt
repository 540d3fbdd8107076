-- `cartesian_strides::corner` meets its contract, by the laws of `Summing`. Assumes nothing.
use Rattle.answers.specs.Says.{answer_says}
use Rattle.cartesian_strides.proofs.Corners.{Summing}
use Rattle.cartesian_strides.proofs.corner.Given as goal

abbrev pub invariant-loop-r : goal.invariant-loop-r
invariant-loop-r l = Summing l.radices l.axes (answer_says l.sum) (answer_says l.stride) l.left l.r-index
