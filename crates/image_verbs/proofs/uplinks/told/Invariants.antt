-- `image_verbs::uplinks::told` is safe and ends. The measure is what is left of the line. Assumes nothing.
use mathlib.Core.Path.{◌≡◌}
use Prim.Native.Nat.{◌+◌, ◌-◌}
use lib.ListN.{length}
use Rattle.image_verbs.proofs.uplinks.told.Given as goal

abbrev pub invariant-loop-at : goal.invariant-loop-at
invariant-loop-at l = length l.bytes ≡ length l.initial.bytes

abbrev pub decreases-loop-at : goal.decreases-loop-at
decreases-loop-at l = (length l.line + 1) - l.at
