-- Worked examples of what the calls on shapes say, beyond those of `promises` (the edges of the rule for 9, radices of 0, no axes). Assumes nothing.
use mathlib.Core.Path.{◌≡◌, refl}
use mathlib.Core.List.{List, [], ◌∷◌}
use Prim.Native.Nat.{ℕ, ◌^◌}
use lib.ListN.{replicate}
use Rattle.positional.specs.Positional.{product, digits_of}
use Rattle.answers.specs.Says.{refuses, gives}
use Rattle.cartesian.specs.Rules.{shape_count_says, linearize_says, delinearize_says}

abbrev cube : List ℕ
cube = 2 ∷ 3 ∷ 4 ∷ []

cube_tuple : delinearize_says cube 23 3 ≡ gives (1 ∷ 2 ∷ 3 ∷ [])
unfolding product digits_of
cube_tuple = refl

-- ---- the rule for 9

wide-count : shape_count_says (2 ^ 63 ∷ 2 ∷ []) ≡ refuses 9
unfolding product
wide-count = refl

-- ---- radices of 0

abbrev high_zero : List ℕ
high_zero = 2 ^ 40 ∷ 2 ^ 40 ∷ 0 ∷ []

abbrev low-zero : List ℕ
low-zero = 0 ∷ 2 ^ 40 ∷ 2 ^ 40 ∷ []

count_of_high_zero : shape_count_says high_zero ≡ gives 0
unfolding product
count_of_high_zero = refl

count_of_low_zero : shape_count_says low-zero ≡ gives 0
unfolding product
count_of_low_zero = refl

no_tuple_of_zero : delinearize_says (0 ∷ []) 0 1 ≡ refuses 3
unfolding product
no_tuple_of_zero = refl

no_tuple_of_high_zero : delinearize_says high_zero 0 3 ≡ refuses 3
unfolding product
no_tuple_of_high_zero = refl

no_tuple_of_low_zero : delinearize_says low-zero 0 3 ≡ refuses 3
unfolding product
no_tuple_of_low_zero = refl

no_number_of_zeros : linearize_says high_zero (0 ∷ 0 ∷ 0 ∷ []) ≡ refuses 7
no_number_of_zeros = refl

-- ---- no axes, and too many

no_axes_count : shape_count_says [] ≡ gives 1
unfolding product
no_axes_count = refl

no_axes_tuple : delinearize_says [] 0 0 ≡ gives []
unfolding product digits_of
no_axes_tuple = refl

more_digits : linearize_says (replicate 16 1) (replicate 17 0) ≡ refuses 8
more_digits = refl

more_axes : linearize_says (replicate 17 1) (replicate 17 0) ≡ refuses 1
more_axes = refl
