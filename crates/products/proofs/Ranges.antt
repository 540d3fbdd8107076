-- The range of i64: a product is judged by quotients. Assumes nothing.
--   most-fits, least_fits    the quotients of the two ends are in the range
--   too-great, too_small, in-range    what the tests against them tell of the product
--   inside-fewer    what is in the range 64 times is so m times
--   inside_fits, factors    a product in the range fits, and what a program multiplies are the numbers
use mathlib.Core.Path.{◌≡◌, refl, sym, ap, ap₂, subst, ◌∙◌}
use mathlib.Core.Bool.{true, false}
use Prim.Native.Nat.{ℕ, zero, suc, ◌-◌, ◌*◌, ◌/◌, ◌^◌, ◌≤◌, ◌<◌}
use native.Mathlib.Nat.{le-div_iff_mul-le, div-lt_iff_lt-mul, div-le_self, mul-le-mul_left}
use native.Mathlib.Omega.{arith}
use borrow.Author.Tests.{ltb-true, ltb-false, lt-ltb, le-ltb}
use lib.Dec.{ltb}
use lib.IntN.{ℤ, pos, negsuc, neg_ℤ, ◌*ℤ◌}
use lib.Signed.{mag, lt_z, quot_z}
use mir.Syntax.{w64}
use mir.Val.{SFits, to_z, of_z}
use mir.ValLaws.{to_z-of_z, to_z_pos}
use Rattle.products.specs.Range.{inside}

mag-neg : (p : ℕ) → mag (neg_ℤ (pos p)) ≡ p - 1
mag-neg zero = refl
mag-neg (suc p) = omega arith

-- a quotient against a factor
module _ (m : ℕ) (h : 0 < m) where
  quotient-under : (t a : ℕ) → t / m < a → t < a * m
  quotient-under t a l = (div-lt_iff_lt-mul h).0 l

  quotient-over : (t a : ℕ) → a ≤ t / m → a * m ≤ t
  quotient-over t a l = (le-div_iff_mul-le h).0 l

module _ (m : ℕ) (h : 1 ≤ m) (l : m ≤ 64) where
  over : (c : ℤ) → lt_z (pos (9223372036854775807 / m)) c ≡ true → inside (c *ℤ pos m) ≡ false
  over (pos a) e = le-ltb (a * m) (2 ^ 63) (omega (arith, quotient-under m h 9223372036854775807 a (ltb-true (9223372036854775807 / m) a e)))
  over (negsuc a) e = absurd (let z : ◌≡◌ {A = ℕ} 0 1 = cc in omega arith)

  some : 1 ≤ 9223372036854775808 / m
  some = (le-div_iff_mul-le h).1 (omega arith)

  under : (c : ℤ) (q : ℕ) → q ≡ 9223372036854775808 / m → lt_z c (neg_ℤ (pos q)) ≡ true → inside (c *ℤ pos m) ≡ false
  under c zero p e = absurd (omega (arith, some))
  under (pos a) (suc q) p e = absurd (let z : ◌≡◌ {A = ℕ} 0 1 = cc in omega arith)
  under (negsuc a) (suc q) p e =
      le-ltb (mag (neg_ℤ (pos (suc a * m)))) (2 ^ 63)
      (omega (arith, mag-neg (suc a * m), quotient-under m h 9223372036854775808 (suc a) (omega (arith, ltb-true q a e))))

  between : (c : ℤ) (q : ℕ) → q ≡ 9223372036854775808 / m → lt_z (pos (9223372036854775807 / m)) c ≡ false → lt_z c (neg_ℤ (pos q)) ≡ false → inside (c *ℤ pos m) ≡ true
  between (pos a) q p e f = lt-ltb (a * m) (2 ^ 63) (omega (arith, quotient-over m h 9223372036854775807 a (ltb-false (9223372036854775807 / m) a e)))
  between (negsuc a) zero p e f = absurd (omega (arith, some))
  between (negsuc a) (suc q) p e f =
      lt-ltb (mag (neg_ℤ (pos (suc a * m)))) (2 ^ 63)
      (omega (arith, mag-neg (suc a * m), quotient-over m h 9223372036854775808 (suc a) (omega (arith, ltb-false q a f))))

  -- the same of what a program reads back from the bits
  most-is : quot_z (pos 9223372036854775807) (to_z w64 m) ≡ pos (9223372036854775807 / m)
  most-is = ap (quot_z (pos 9223372036854775807)) (to_z_pos w64 m (omega arith))

  least-is : quot_z (negsuc 9223372036854775807) (to_z w64 m) ≡ neg_ℤ (pos (9223372036854775808 / m))
  least-is = ap (quot_z (negsuc 9223372036854775807)) (to_z_pos w64 m (omega arith))

  pub most-fits : SFits w64 (quot_z (pos 9223372036854775807) (to_z w64 m))
  most-fits = subst (SFits w64) (sym most-is) (record { sfits = omega (arith, div-le_self 9223372036854775807 m) })

  pub least_fits : SFits w64 (quot_z (negsuc 9223372036854775807) (to_z w64 m))
  least_fits = subst (SFits w64) (sym least-is) (record { sfits = omega (arith, mag-neg (9223372036854775808 / m), div-le_self 9223372036854775808 m) })

  module _ (c : ℤ) (f : SFits w64 c) where
    plain-most : lt_z (to_z w64 (of_z w64 (quot_z (pos 9223372036854775807) (to_z w64 m)))) (to_z w64 (of_z w64 c)) ≡ lt_z (pos (9223372036854775807 / m)) c
    plain-most = ap₂ lt_z (to_z-of_z w64 (quot_z (pos 9223372036854775807) (to_z w64 m)) most-fits ∙ most-is) (to_z-of_z w64 c f)

    plain-least : lt_z (to_z w64 (of_z w64 c)) (to_z w64 (of_z w64 (quot_z (negsuc 9223372036854775807) (to_z w64 m)))) ≡ lt_z c (neg_ℤ (pos (9223372036854775808 / m)))
    plain-least = ap₂ lt_z (to_z-of_z w64 c f) (to_z-of_z w64 (quot_z (negsuc 9223372036854775807) (to_z w64 m)) least_fits ∙ least-is)

    pub too-great : lt_z (to_z w64 (of_z w64 (quot_z (pos 9223372036854775807) (to_z w64 m)))) (to_z w64 (of_z w64 c)) ≡ true → false ≡ inside (c *ℤ pos m)
    too-great e = sym (over c (sym plain-most ∙ e))

    pub too_small : lt_z (to_z w64 (of_z w64 c)) (to_z w64 (of_z w64 (quot_z (negsuc 9223372036854775807) (to_z w64 m)))) ≡ true → false ≡ inside (c *ℤ pos m)
    too_small e = sym (under c (9223372036854775808 / m) refl (sym plain-least ∙ e))

    pub in-range : lt_z (to_z w64 (of_z w64 (quot_z (pos 9223372036854775807) (to_z w64 m)))) (to_z w64 (of_z w64 c)) ≡ false
        → lt_z (to_z w64 (of_z w64 c)) (to_z w64 (of_z w64 (quot_z (negsuc 9223372036854775807) (to_z w64 m)))) ≡ false → true ≡ inside (c *ℤ pos m)
    in-range e g = sym (between c (9223372036854775808 / m) refl (sym plain-most ∙ e) (sym plain-least ∙ g))

-- ---- fewer times

pub inside-fewer : (c : ℤ) (m : ℕ) → m ≤ 64 → inside (c *ℤ pos 64) ≡ true → inside (c *ℤ pos m) ≡ true
inside-fewer (pos a) m h e = lt-ltb (a * m) (2 ^ 63) (omega (arith, mul-le-mul_left a h, ltb-true (a * 64) (2 ^ 63) e))
inside-fewer (negsuc a) m h e =
    lt-ltb (mag (neg_ℤ (pos (suc a * m)))) (2 ^ 63)
    (omega (arith, mag-neg (suc a * m), mag-neg (suc a * 64), mul-le-mul_left (suc a) h, ltb-true (mag (neg_ℤ (pos (suc a * 64)))) (2 ^ 63) e))

-- ---- the product

pub inside_fits : (z : ℤ) → inside z ≡ true → SFits w64 z
inside_fits z e = record { sfits = ltb-true (mag z) (2 ^ 63) e }

-- what a program multiplies are the numbers
pub factors : (c : ℤ) (m : ℕ) → SFits w64 c → m ≤ 64 → to_z w64 (of_z w64 c) *ℤ to_z w64 m ≡ c *ℤ pos m
factors c m f h = ap₂ ◌*ℤ◌ (to_z-of_z w64 c f) (to_z_pos w64 m (omega arith))
