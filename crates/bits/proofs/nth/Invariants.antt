-- `bits::nth` meets its contract. The invariant: what is left is the set without its i lowest. Assumes nothing.
use Rattle.std.proofs.Common.{◌≡◌, drop}
use Rattle.words.specs.Bits.{set_bits}
use Rattle.bits.proofs.nth.Given as goal

abbrev pub invariant-loop-i : goal.invariant-loop-i
invariant-loop-i l = set_bits l.left ≡ drop l._i (set_bits l.a)
