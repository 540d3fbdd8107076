-- `text::read_number` meets its contract. The invariant: what was passed are digits, and n with the digits that are left is the word's number.
-- Assumes nothing.
use mathlib.Core.Path.{◌≡◌}
use Prim.Native.Nat.{ℕ, ◌^◌, ◌<◌}
use lib.ListN.{length, get_or, drop}
use Rattle.text.specs.Numeral.{IsDigit, value_from}
use Rattle.text.proofs.read_number.Given as goal

abbrev pub invariant-loop-b : goal.invariant-loop-b
invariant-loop-b l = (l.n < 2 ^ 64) × (1 < length l.word → get_or l.word 0 0 ≡ 48 → ⊥)
    × ((k : ℕ) → k < l.b-index → IsDigit (get_or l.word k 0)) × (value_from l.n (drop l.b-index l.word) ≡ value_from 0 l.word)
