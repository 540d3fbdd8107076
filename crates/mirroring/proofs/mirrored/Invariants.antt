-- `mirroring::mirrored` meets its contract, by the laws of `Mirroring`. Assumes nothing.
use lib.ListN.{length}
use Rattle.words.specs.Bits.{set_bits}
use Rattle.mirroring.proofs.Mirroring.{Mirroring}
use Rattle.mirroring.proofs.mirrored.Given as goal

abbrev pub invariant-loop-left : goal.invariant-loop-left
invariant-loop-left l = Mirroring l.a l.bits l.left l.out

abbrev pub decreases-loop-left : goal.decreases-loop-left
decreases-loop-left l = length (set_bits l.left)
