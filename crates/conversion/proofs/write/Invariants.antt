-- `conversion::write` meets its contract: one entry a turn. Assumes nothing.
use Rattle.conversion.proofs.Writing.{Converting}
use Rattle.conversion.proofs.write.Given as goal

abbrev pub invariant-loop-q : goal.invariant-loop-q
invariant-loop-q l = Converting l.back l.a l.k l.c l.from l.out l.bits l.later l.q
