-- `cartesian::number` meets its contract. The invariant: the number of the digits from axis i up. Assumes nothing.
use Rattle.cartesian.proofs.Tuples.{Above}
use Rattle.cartesian.proofs.number.Given as goal

abbrev pub invariant-loop-i : goal.invariant-loop-i
invariant-loop-i l = Above l.radices l.digits l.above l.i
