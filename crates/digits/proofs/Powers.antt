-- Powers of a radix, as the calls on digit words meet them. Assumes nothing.
--   square_power    a power of a square
--   halved_power    a power by the square of its base: a factor alone, if their number is odd, and pairs
--   Squared p b left t    what is left of a power that is made by squares: the power is t, p is made, and b to the power of what is left is not
--   squared_begins, squared_turn, squared_ends    it holds where the loop begins, and after a turn; where it ends the power is made
--   odd-alone, odd_none    the factor that stands alone, if there is one
--   odd_too_big, square_too_big    a product that is too big on the way is too big in the end
--   radix_positive    a word with a rank and a position has a radix that is not 0
--   power_positive    a power of a radix that is not 0 is not 0
--   power_within    a power that is no greater than another fits where that does
use mathlib.Core.Path.{◌≡◌, sym, ap, ap₂, subst, ◌∙◌}
use mathlib.Core.Bool.{true}
use Prim.Native.Nat.{ℕ, zero, suc, ◌+◌, ◌*◌, ◌/◌, ◌%◌, ◌^◌, ◌≤◌, ◌<◌, zero-le}
use native.Mathlib.Nat.{le_refl, mul_assoc, mul_comm, mul-zero, zero-mul, mul-one, one-mul, mul-mul-mul_comm, mul-le-mul_left, mul-le-mul_right, pow-zero, pow-suc, pow-succ', pow-le-pow_right, one-le-pow, zero-lt-suc}
use native.Mathlib.Omega.{arith}
use native.Mathlib.Decide.{dec_lt}
use borrow.Author.Tests.{le-leb, leb-true}
use lib.Dec.{leb}
use lib.Pow.{pow-add}
use Rattle.answers.specs.Says.{refuses}
use Rattle.cartesian.specs.Checks.{number_says}

-- ---- by squares

pub square_power : (b m : ℕ) → (b * b) ^ m ≡ b ^ (m + m)
square_power b m = both m ∙ sym (pow-add b m m)
  where
    both : (m : ℕ) → (b * b) ^ m ≡ b ^ m * b ^ m
    both zero = pow-zero (b * b) ∙ sym (ap₂ (λ (x y : ℕ). x * y) (pow-zero b) (pow-zero b) ∙ mul-one 1)
    both (suc m) = pow-suc (b * b) m ∙ ap (λ (x : ℕ). x * (b * b)) (both m) ∙ mul-mul-mul_comm (b ^ m) (b ^ m) b b ∙ sym (ap₂ (λ (x y : ℕ). x * y) (pow-suc b m) (pow-suc b m))

pub halved_power : (b m : ℕ) → b ^ m ≡ b ^ (m % 2) * (b * b) ^ (m / 2)
halved_power b m =
    let e : m ≡ m % 2 + (m / 2 + m / 2) = omega arith in
    ap (λ (j : ℕ). b ^ j) e ∙ pow-add b (m % 2) (m / 2 + m / 2) ∙ ap (λ (x : ℕ). b ^ (m % 2) * x) (sym (square_power b (m / 2)))

pub odd-alone : (b m : ℕ) → (m % 2 ≡ 0 → ⊥) → b ≡ b ^ (m % 2)
odd-alone b m h =
    let e : m % 2 ≡ 1 = omega (arith, h) in
    sym (ap (λ (j : ℕ). b ^ j) e ∙ pow-suc b 0 ∙ ap (λ (x : ℕ). x * b) (pow-zero b) ∙ one-mul b)

pub odd_none : (b m : ℕ) → m % 2 ≡ 0 → 1 ≡ b ^ (m % 2)
odd_none b m e = sym (ap (λ (j : ℕ). b ^ j) e ∙ pow-zero b)

pub record Squared (p b left t : ℕ) : Type 0 where
  pub whole : p * b ^ left ≡ t
  pub made : 0 < b → 0 < p
  pub product : p < 2 ^ 64
  pub base : b < 2 ^ 64

pub squared_begins : (n k : ℕ) → n < 2 ^ 64 → Squared 1 n k (n ^ k)
squared_begins n k h = record { whole = one-mul (n ^ k); made = λ l. omega arith; product = omega arith; base = h }

-- what is made with the factor that stands alone, and the pairs that are left
taken_apart : (p b left t f : ℕ) → Squared p b left t → f ≡ b ^ (left % 2) → p * f * (b * b) ^ (left / 2) ≡ t
taken_apart p b left t f s e =
    mul_assoc p f ((b * b) ^ (left / 2))
    ∙ ap (λ (x : ℕ). p * (x * (b * b) ^ (left / 2))) e
    ∙ ap (λ (x : ℕ). p * x) (sym (halved_power b left))
    ∙ s.whole

product-positive : (a b : ℕ) → 0 < a → 0 < b → 0 < a * b
product-positive (suc a) (suc b) h l = omega arith
product-positive zero b h l = absurd (omega arith)
product-positive (suc a) zero h l = absurd (omega arith)

base-positive : (b : ℕ) → 0 < b * b → 0 < b
base-positive zero h = absurd (omega arith)
base-positive (suc b) h = zero-lt-suc b

pub squared_turn : (p b left t f : ℕ) → Squared p b left t → f ≡ b ^ (left % 2) → p * f < 2 ^ 64 → b * b < 2 ^ 64 → Squared (p * f) (b * b) (left / 2) t
squared_turn p b left t f s e h l =
    record {
      whole = taken_apart p b left t f s e;
      made = λ q. product-positive p f (s.made (base-positive b q)) (subst (λ (x : ℕ). 0 < x) (sym e) (one-le-pow (left % 2) b (base-positive b q)));
      product = h;
      base = l;
    }

pub squared_ends : (p b left t f : ℕ) → Squared p b left t → f ≡ b ^ (left % 2) → left ≤ 1 → p * f ≡ t
squared_ends p b left t f s e h =
    let m : left % 2 ≡ left = omega arith in
    ap (λ (x : ℕ). p * x) (e ∙ ap (λ (j : ℕ). b ^ j) m) ∙ s.whole

-- a number times a power of one that is not 0 is no smaller
no_smaller : (a b m : ℕ) → 0 < b → a ≤ a * b ^ m
no_smaller a b m h = subst (λ (x : ℕ). x ≤ a * b ^ m) (mul-one a) (mul-le-mul_left a (one-le-pow m b h))

pub odd_too_big : (p b left t f : ℕ) → Squared p b left t → f ≡ b ^ (left % 2) → leb (2 ^ 64) (p * f) ≡ true → refuses 9 ≡ number_says t
odd_too_big p b left t f s e h = simp (le-leb (2 ^ 64) t big)
  where
    over : 2 ^ 64 ≤ p * f
    over = leb-true (2 ^ 64) (p * f) h

    -- without a factor nothing grew
    none : (m : ℕ) → b ≡ 0 → f ≡ b ^ m → p * f ≤ p
    none zero z g = subst (λ (x : ℕ). p * x ≤ p) (sym (g ∙ pow-zero b)) (subst (λ (x : ℕ). x ≤ p) (sym (mul-one p)) (le_refl p))
    none (suc m) z g = subst (λ (x : ℕ). x ≤ p) (sym (ap (λ (x : ℕ). p * x) (g ∙ pow-succ' b m ∙ ap (λ (x : ℕ). x * b ^ m) z ∙ zero-mul (b ^ m)) ∙ mul-zero p)) zero-le

    some : 0 < b
    some = go (dec_lt 0 b)
      where
        go : Dec (0 < b) → 0 < b
        go (yes l) = l
        go (no l) = absurd (omega (arith, over, s.product, none (left % 2) (omega (arith, l)) e))

    big : 2 ^ 64 ≤ t
    big = omega (arith, over, no_smaller (p * f) (b * b) (left / 2) (product-positive b b some some), taken_apart p b left t f s e)

pub square_too_big : (p b left t f : ℕ) → Squared p b left t → f ≡ b ^ (left % 2) → 1 < left → leb (2 ^ 64) (b * b) ≡ true → refuses 9 ≡ number_says t
square_too_big p b left t f s e h l = simp (le-leb (2 ^ 64) t big)
  where
    over : 2 ^ 64 ≤ b * b
    over = leb-true (2 ^ 64) (b * b) l

    some : 0 < b
    some = base-positive b (omega (arith, over))

    made : 0 < p * f
    made = product-positive p f (s.made some) (subst (λ (x : ℕ). 0 < x) (sym e) (one-le-pow (left % 2) b some))

    grown : b * b ≤ (b * b) ^ (left / 2)
    grown = subst (λ (x : ℕ). x ≤ (b * b) ^ (left / 2)) (pow-suc (b * b) 0 ∙ ap (λ (x : ℕ). x * (b * b)) (pow-zero (b * b)) ∙ one-mul (b * b)) (pow-le-pow_right {n = b * b} (omega (arith, over)) {i = 1} {j = left / 2} (omega arith))

    big : 2 ^ 64 ≤ t
    big =
        let m : 1 * (b * b) ^ (left / 2) ≤ p * f * (b * b) ^ (left / 2) = mul-le-mul_right ((b * b) ^ (left / 2)) made in
        omega (arith, over, grown, one-mul ((b * b) ^ (left / 2)), m, taken_apart p b left t f s e)

-- a product that is not 0 has no factor 0
factor_positive : (p n b : ℕ) → b < p * n → 0 < n
factor_positive p zero b h = absurd (omega (arith, mul-zero p))
factor_positive p (suc n) b h = zero-lt-suc n

pub radix_positive : (n k r i : ℕ) → r < n ^ k → i < k → 0 < n
radix_positive n zero r i h l = absurd (omega arith)
radix_positive n (suc k) r i h l = factor_positive (n ^ k) n r (omega (arith, pow-succ' n k, mul_comm n (n ^ k)))

pub power_positive : (n p : ℕ) → 0 < n → 0 < n ^ p
power_positive n p h = let l : n ^ 0 ≤ n ^ p = pow-le-pow_right h zero-le in omega (arith, l, pow-zero n)

pub power_within : (n k r p : ℕ) → r < n ^ k → n ^ k < 2 ^ 64 → p < k → n ^ p < 2 ^ 64
power_within n k r p h f l =
    let m : n ^ p ≤ n ^ k = pow-le-pow_right (radix_positive n k r p h l) (omega arith) in
    omega arith
