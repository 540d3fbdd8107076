-- `cartesian_strides::write_strides` meets its contract, by the laws of `Striding`. Assumes nothing.
use Rattle.cartesian_strides.proofs.Writing.{Striding}
use Rattle.cartesian_strides.proofs.write_strides.Given as goal

abbrev pub invariant-loop-i : goal.invariant-loop-i
invariant-loop-i l = Striding l.radices l.initial.out l.out l.stride l.i
