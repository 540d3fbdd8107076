-- `permutation_order::first_greater` meets its contract: no entry passed is greater. Assumes nothing.
use Prim.Native.Nat.{ℕ, ◌≤◌, ◌<◌}
use lib.ListN.{get_or}
use Rattle.permutation_order.proofs.first_greater.Given as goal

abbrev pub invariant-loop-i : goal.invariant-loop-i
invariant-loop-i l = (j : ℕ) → j < l.i → get_or l.p.entries j 0 ≤ get_or l.p.entries l.k 0
