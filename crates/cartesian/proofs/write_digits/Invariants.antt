-- `cartesian::write_digits` meets its contract, by the laws of `Spelling`. Assumes nothing.
use Rattle.cartesian.proofs.Writing.{Spelling}
use Rattle.cartesian.proofs.write_digits.Given as goal

abbrev pub invariant-loop-i : goal.invariant-loop-i
invariant-loop-i l = Spelling l.radices l.x l.initial.out l.out l.left l.i
