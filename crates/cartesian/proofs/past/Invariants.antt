-- `cartesian::past` meets its contract. The invariant: no radix passed is 0. Assumes nothing.
use Prim.Native.Nat.{◌<◌}
use Rattle.positional.specs.Positional.{stride}
use Rattle.cartesian.proofs.past.Given as goal

abbrev pub invariant-loop-r : goal.invariant-loop-r
invariant-loop-r l = 0 < stride l.radices l.r-index
