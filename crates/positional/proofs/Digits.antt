-- A number and its digits. Assumes nothing.
--   digits_long, digit_below    there are as many good digits as radices, and each is below its radix
--   number_below    the number that has good digits is below the product of the radices
--   digits-good    a number below the product has good digits
--   number_of_digits    a number below the product is the one that has its digits
--   digits_of_number    good digits are those of the number that has them
use mathlib.Core.Path.{◌≡◌, refl, ap, ap₂, ◌∙◌}
use mathlib.Core.List.{List, [], ◌∷◌}
use Prim.Native.Nat.{ℕ, zero, suc, ◌+◌, ◌*◌, ◌/◌, ◌%◌, ◌<◌, ◌≤◌}
use native.Mathlib.Nat.{zero-add, zero-lt-suc, not-suc-le-zero, le_of_suc-le-suc, mul-le-mul_left, mul_comm, mod-lt, mod-eq_of_lt, mod-add-div, div-eq_of_lt, div-lt_iff_lt-mul, add-mul-mod_self_left, add-mul-div_left}
use native.Mathlib.Omega.{arith}
use lib.ListN.{length, get_or}
use Rattle.positional.specs.Positional.{product, Digits, positional_value, digits_of}

-- ---- digits by their positions

pub digits_long : (rs ds : List ℕ) → Digits rs ds → length ds ≡ length rs
digits_long [] [] g = refl
digits_long [] (d ∷ ds) g = absurd g
digits_long (r ∷ rs) [] g = absurd g
digits_long (r ∷ rs) (d ∷ ds) g = ap suc (digits_long rs ds g.1)

pub digit_below : (rs ds : List ℕ) → Digits rs ds → (i : ℕ) → i < length rs → get_or ds i 0 < get_or rs i 0
digit_below [] ds g i h = absurd (not-suc-le-zero h)
digit_below (r ∷ rs) [] g i h = absurd g
digit_below (r ∷ rs) (d ∷ ds) g zero h = g.0
digit_below (r ∷ rs) (d ∷ ds) g (suc i) h = digit_below rs ds g.1 i (le_of_suc-le-suc h)

-- ---- the two ways

pub number_below : (rs ds : List ℕ) → Digits rs ds → positional_value rs ds < product rs
unfolding product positional_value
number_below [] [] g = omega arith
number_below [] (d ∷ ds) g = absurd g
number_below (r ∷ rs) [] g = absurd g
number_below (r ∷ rs) (d ∷ ds) g =
    omega (arith, g.0, mul-le-mul_left r (number_below rs ds g.1))

-- a number below r * p leaves below p after a division by r, and r is not 0
divisor_pos : (r p x : ℕ) → x < r * p → 0 < r
divisor_pos zero p x h = absurd (omega arith)
divisor_pos (suc r) p x h = zero-lt-suc r

pub quotient_below : (r p x : ℕ) → x < r * p → x / r < p
quotient_below r p x h = (div-lt_iff_lt-mul (divisor_pos r p x h)).1 (omega (arith, mul_comm r p))

pub digits-good : (rs : List ℕ) (x : ℕ) → x < product rs → Digits rs (digits_of rs x)
unfolding product digits_of
digits-good [] x h = tt
digits-good (r ∷ rs) x h = (mod-lt x (divisor_pos r (product rs) x h), digits-good rs (x / r) (quotient_below r (product rs) x h))

pub number_of_digits : (rs : List ℕ) (x : ℕ) → x < product rs → positional_value rs (digits_of rs x) ≡ x
unfolding product positional_value digits_of
number_of_digits [] x h = omega arith
number_of_digits (r ∷ rs) x h =
    ap (λ (y : ℕ). x % r + r * y) (number_of_digits rs (x / r) (quotient_below r (product rs) x h)) ∙ mod-add-div x r

-- what d + r * n leaves, and what it goes to, at a division by r
pub lowest-digit : (r d n : ℕ) → d < r → (d + r * n) % r ≡ d
lowest-digit r d n h = add-mul-mod_self_left d r n ∙ mod-eq_of_lt h

pub upper_digits : (r d n : ℕ) → d < r → (d + r * n) / r ≡ n
upper_digits r d n h = add-mul-div_left d n (omega arith) ∙ ap (λ (q : ℕ). q + n) (div-eq_of_lt h) ∙ zero-add n

pub digits_of_number : (rs ds : List ℕ) → Digits rs ds → digits_of rs (positional_value rs ds) ≡ ds
unfolding positional_value digits_of
digits_of_number [] [] g = refl
digits_of_number [] (d ∷ ds) g = absurd g
digits_of_number (r ∷ rs) [] g = absurd g
digits_of_number (r ∷ rs) (d ∷ ds) g =
    ap₂ ◌∷◌ (lowest-digit r d (positional_value rs ds) g.0) (ap (digits_of rs) (upper_digits r d (positional_value rs ds) g.0) ∙ digits_of_number rs ds g.1)
