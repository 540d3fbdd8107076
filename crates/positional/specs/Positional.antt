-- Positional numbers with a radix for each position (Knuth 4.1, mixed radix; 01, "Shapes, digit words, exponents"). Position 0, the first of the list, is least
-- significant. Assumes nothing.
--   product rs    the product of the radices, 1 for none
--   stride rs i    what a digit at position i is worth: the product of the radices before it
--   strides rs    the stride of each position
--   corner_of rs axes    the sum of the strides of the chosen positions
--   Digits rs ds    as many digits as radices, each below its radix
--   positional_value rs ds    the number that has the digits ds: d0 + r0 * (d1 + r1 * ..)
--   weighed ds ss    the sum of the digits, each times the number at its position in ss
--   digits_of rs x    the digits of x: x % r0, and then those of x / r0
use Rattle.std.specs.Prelude.{List, [], ◌∷◌, ℕ, zero, suc, ◌+◌, ◌*◌, ◌/◌, ◌%◌, ◌<◌, length, take}

unfoldable pub product : List ℕ → ℕ
product [] = 1
product (r ∷ rs) = r * product rs

abbrev pub stride : List ℕ → ℕ → ℕ
stride rs i = product (take i rs)

-- the values of f at 0 .. n - 1
abbrev pub values_below : (ℕ → ℕ) → ℕ → List ℕ
values_below f zero = []
values_below f (suc n) = f zero ∷ values_below (λ i. f (suc i)) n

abbrev pub strides : List ℕ → List ℕ
strides rs = values_below (stride rs) (length rs)

unfoldable pub corner_of : List ℕ → List ℕ → ℕ
corner_of rs [] = 0
corner_of rs (a ∷ axes) = stride rs a + corner_of rs axes

abbrev pub Digits : List ℕ → List ℕ → Type 0
Digits [] [] = Unit {0}
Digits [] (d ∷ ds) = ⊥
Digits (r ∷ rs) [] = ⊥
Digits (r ∷ rs) (d ∷ ds) = (d < r) × Digits rs ds

unfoldable pub positional_value : List ℕ → List ℕ → ℕ
positional_value [] ds = 0
positional_value (r ∷ rs) [] = 0
positional_value (r ∷ rs) (d ∷ ds) = d + r * positional_value rs ds

abbrev pub weighed : List ℕ → List ℕ → ℕ
weighed [] ss = 0
weighed (d ∷ ds) [] = 0
weighed (d ∷ ds) (s ∷ ss) = d * s + weighed ds ss

unfoldable pub digits_of : List ℕ → ℕ → List ℕ
digits_of [] x = []
digits_of (r ∷ rs) x = (x % r) ∷ digits_of rs (x / r)
