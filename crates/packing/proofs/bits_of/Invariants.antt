-- `packing::bits_of` meets its contract. The invariant: the bits so far, and those of what is left of the word, make the whole. Assumes nothing.
use mathlib.Core.Path.{◌≡◌}
use Prim.Native.Nat.{◌+◌}
use lib.ListN.{drop}
use Rattle.words.specs.Word.{shifted_from, shifted}
use Rattle.words.specs.Bits.{bits_of}
use Rattle.packing.proofs.bits_of.Given as goal

abbrev pub invariant-loop-i : goal.invariant-loop-i
invariant-loop-i l = l.bits + bits_of (shifted_from l.f l.i (drop l.i l.w)) ≡ bits_of (shifted l.f l.w)
