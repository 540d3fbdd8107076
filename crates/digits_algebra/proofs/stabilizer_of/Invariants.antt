-- `digits_algebra::stabilizer_of` meets its contract, by the laws of `Counting`. Assumes nothing.
use Rattle.digits_algebra.proofs.Counting.{Multiplied}
use Rattle.digits_algebra.proofs.stabilizer_of.Given as goal

abbrev pub invariant-loop-i : goal.invariant-loop-i
invariant-loop-i l = Multiplied l.word l.upto l.product l.i
