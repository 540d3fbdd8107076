-- `wide_unrank::spell` meets its contract, by the laws of `packing`'s spelling, which are over any set. Assumes nothing.
use Rattle.packing.proofs.Spelling.{Spelling}
use Rattle.wide_bits.specs.Whole.{whole}
use Rattle.wide_unrank.proofs.spell.Given as goal

abbrev pub invariant-loop-i : goal.invariant-loop-i
invariant-loop-i l = Spelling l.family (whole l.initial.left) l.initial.out l.out (whole l.left) l.i
