-- `deletion::product` meets its contract, by the laws of `Multiplying`. Assumes nothing.
use Prim.Native.Nat.{◌<◌}
use lib.ListN.{length}
use Rattle.words.specs.Bits.{set_bits}
use Rattle.deletion.proofs.Multiplying.{Multiplied}
use Rattle.deletion.proofs.product.Given as goal

abbrev pub invariant-loop-i : goal.invariant-loop-i
invariant-loop-i l = Multiplied l.family l.initial.left l.left l.i l.previous l.run l.product × (l.i < length (set_bits l.initial.left))
