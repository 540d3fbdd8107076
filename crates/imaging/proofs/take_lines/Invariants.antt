-- `imaging::take_lines` is safe and ends. The measure is what is left of the description. Assumes nothing.
use mathlib.Core.Path.{◌≡◌}
use Prim.Native.Nat.{◌-◌, ◌≤◌}
use lib.ListN.{length}
use Rattle.imaging.proofs.take_lines.Given as goal

abbrev pub invariant-loop-at : goal.invariant-loop-at
invariant-loop-at l = (l.at ≤ length l.description) × (length l.contents ≡ length l.initial.contents) × (length l.bodies ≡ length l.initial.bodies)

abbrev pub decreases-loop-at : goal.decreases-loop-at
decreases-loop-at l = length l.description - l.at
