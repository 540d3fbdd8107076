-- Places in a text, which is a list of bytes. Assumes nothing.
--   Found s from b r    r is the first place at or after `from` where b stands in s, or the length of s if there is none
--   Put out at w out' next    out' is the text out with w written from place `at` on, and next the place after it; a w that does not fit is not written
use Rattle.std.specs.Prelude.{List, ◌++◌, ◌≡◌, ℕ, ◌+◌, ◌≤◌, ◌<◌, min, length, take, drop, get_or}

pub record Found (s : List ℕ) (from b r : ℕ) : Type 0 where
  pub within : r ≤ length s
  pub after : min from (length s) ≤ r
  pub none : (k : ℕ) → k < r → from ≤ k → get_or s k 0 ≡ b → ⊥
  pub there : r < length s → get_or s r 0 ≡ b

-- `within` follows from the other two
pub record Put (out : List ℕ) (at : ℕ) (w out' : List ℕ) (next : ℕ) : Type 0 where
  pub fits : at + length w ≤ length out → (out' ≡ take at out ++ w ++ drop (at + length w) out) × (next ≡ at + length w)
  pub full : length out < at + length w → (out' ≡ out) × (next ≡ min at (length out))
  pub within : next ≤ length out
