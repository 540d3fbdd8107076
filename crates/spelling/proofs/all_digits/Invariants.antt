-- `spelling::all_digits` meets its contract. The invariant: what was passed are digits. Assumes nothing.
use Prim.Native.Nat.{ℕ, ◌<◌}
use lib.ListN.{get_or}
use Rattle.spelling.specs.Hex.{IsHex}
use Rattle.spelling.proofs.all_digits.Given as goal

abbrev pub invariant-loop-b : goal.invariant-loop-b
invariant-loop-b l = (k : ℕ) → k < l.b-index → IsHex (get_or l.text k 0)
