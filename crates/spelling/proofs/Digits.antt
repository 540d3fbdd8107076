-- The hex digits. Assumes nothing.
--   digit_low, digit-high    the digits 0 to 9, and a to f
--   value_low, value-high, no_digit    a byte that is one of these has its value, and another byte none
--   one_digit    a byte is one digit at most
use mathlib.Core.Bool.{Bool, true, false}
use mathlib.Core.Path.{◌≡◌, refl}
use mathlib.Core.Logic.{◌⊎◌, inl, inr}
use Prim.Native.Nat.{ℕ, ◌+◌, ◌-◌, ◌≤◌, ◌<◌}
use native.Mathlib.Omega.{arith}
use lib.Dec.{ltb}
use borrow.Author.Tests.{ltb-true, ltb-false, lt-ltb, le-ltb}
use Rattle.spelling.specs.Hex.{digit_text, HexDigit}

pub digit_low : (d : ℕ) → d < 10 → digit_text d ≡ 48 + d
digit_low d h = simp (lt-ltb d 10 h)

pub digit-high : (d : ℕ) → 10 ≤ d → digit_text d ≡ 87 + d
digit-high d h = simp (le-ltb d 10 h)

-- which of the two a digit is
abbrev Sort : ℕ → Type 0
Sort d = ((d < 10) × (digit_text d ≡ 48 + d)) ⊎ ((10 ≤ d) × (digit_text d ≡ 87 + d))

sort_of : (d : ℕ) → Sort d
sort_of d = go (ltb d 10) refl
  where
    go : (t : Bool) → ltb d 10 ≡ t → Sort d
    go true e = let h = ltb-true d 10 e in inl (h, digit_low d h)
    go false e = let h = ltb-false d 10 e in inr (h, digit-high d h)

pub value_low : (b : ℕ) → 48 ≤ b → b ≤ 57 → HexDigit b (b - 48)
value_low b h l = record { says = λ s. says; only = λ d g e. only d g e (sort_of d) }
  where
    says : b ≡ digit_text (b - 48)
    says = omega (arith, digit_low (b - 48) (omega arith))

    only : (d : ℕ) → d < 16 → b ≡ digit_text d → Sort d → b - 48 ≡ d
    only d g e (inl s) = omega (arith, s.0, s.1)
    only d g e (inr s) = omega (arith, s.0, s.1)

pub value-high : (b : ℕ) → 97 ≤ b → b ≤ 102 → HexDigit b (b - 87)
value-high b h l = record { says = λ s. says; only = λ d g e. only d g e (sort_of d) }
  where
    says : b ≡ digit_text (b - 87)
    says = omega (arith, digit-high (b - 87) (omega arith))

    only : (d : ℕ) → d < 16 → b ≡ digit_text d → Sort d → b - 87 ≡ d
    only d g e (inl s) = omega (arith, s.0, s.1)
    only d g e (inr s) = omega (arith, s.0, s.1)

pub no_digit : (b : ℕ) → (48 ≤ b → b ≤ 57 → ⊥) → (97 ≤ b → b ≤ 102 → ⊥) → HexDigit b 16
no_digit b low high = record { says = λ s. absurd (omega arith); only = λ d g e. absurd (only d g e (sort_of d)) }
  where
    only : (d : ℕ) → d < 16 → b ≡ digit_text d → Sort d → ⊥
    only d g e (inl s) = low (omega (arith, s.0, s.1)) (omega (arith, s.0, s.1))
    only d g e (inr s) = high (omega (arith, s.0, s.1)) (omega (arith, s.0, s.1))

pub one_digit : (d e : ℕ) → d < 16 → e < 16 → digit_text d ≡ digit_text e → d ≡ e
one_digit d e h l q = go (sort_of d) (sort_of e)
  where
    go : Sort d → Sort e → d ≡ e
    go (inl a) (inl b) = omega (arith, a.1, b.1)
    go (inl a) (inr b) = absurd (omega (arith, a.0, a.1, b.0, b.1))
    go (inr a) (inl b) = absurd (omega (arith, a.0, a.1, b.0, b.1))
    go (inr a) (inr b) = omega (arith, a.1, b.1)
