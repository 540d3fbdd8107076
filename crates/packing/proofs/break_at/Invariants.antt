-- `packing::break_at` meets its contract. The invariant: what is left of the word decides. Assumes nothing.
use mathlib.Core.Path.{◌≡◌}
use Prim.Native.Nat.{◌-◌, ◌≤◌}
use lib.ListN.{length, drop}
use Rattle.packing.specs.Checks.{break_from, break_at}
use Rattle.packing.proofs.break_at.Given as goal

abbrev pub invariant-loop-i : goal.invariant-loop-i
invariant-loop-i l = (l.i - 1 ≤ length l.w) × (break_at l.f l.w ≡ break_from l.f (l.i - 1) (drop (l.i - 1) l.w))
