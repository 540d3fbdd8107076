-- `packing::spell` meets its contract, by the laws of `Spelling`. Assumes nothing.
use Rattle.packing.proofs.Spelling.{Spelling}
use Rattle.packing.proofs.spell.Given as goal

abbrev pub invariant-loop-i : goal.invariant-loop-i
invariant-loop-i l = Spelling l.f l.bits l.initial.out l.out l.left l.i
