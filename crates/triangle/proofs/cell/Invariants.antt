-- `triangle::cell` meets its contract. The invariant: the rest is counted from where row n begins. Assumes nothing.
use mathlib.Core.Path.{◌≡◌}
use Prim.Native.Nat.{◌+◌, ◌-◌, ◌*◌, ◌/◌}
use Rattle.triangle.proofs.cell.Given as goal

abbrev pub invariant-loop-n : goal.invariant-loop-n
invariant-loop-n l = (l.n - 1) * (l.n - 1) / 4 + l.rest ≡ l.h * 64 + l.i
