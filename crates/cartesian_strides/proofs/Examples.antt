-- Strides and corners, worked out. Assumes nothing.
use mathlib.Core.Path.{◌≡◌, refl}
use mathlib.Core.List.{[], ◌∷◌}
use Prim.Native.Nat.{◌^◌}
use Rattle.words.specs.Bits.{ones_from}
use Rattle.bits.specs.Member.{reaches}
use Rattle.positional.specs.Positional.{product, corner_of}
use Rattle.answers.specs.Says.{refuses, gives}
use Rattle.cartesian_strides.specs.Rules.{strides_says, corner_says}

cube_corner : corner_says (2 ∷ 3 ∷ 4 ∷ []) 6 ≡ gives 8
unfolding product corner_of ones_from reaches
cube_corner = refl

wide-strides : strides_says (2 ^ 63 ∷ 2 ∷ []) 2 ≡ gives (1 ∷ 2 ^ 63 ∷ [])
unfolding product
wide-strides = refl

-- each stride is handed out, so a zero after them does not help; one before them does
strides_before_zero : strides_says (2 ^ 40 ∷ 2 ^ 40 ∷ 0 ∷ []) 3 ≡ refuses 9
unfolding product
strides_before_zero = refl

strides-past-zero : strides_says (2 ^ 40 ∷ 0 ∷ 2 ^ 40 ∷ 2 ^ 40 ∷ []) 4 ≡ gives (1 ∷ 2 ^ 40 ∷ 0 ∷ 0 ∷ [])
unfolding product
strides-past-zero = refl

-- a stride past 2^64 that falls back to 0
corner_past_zero : corner_says (2 ^ 40 ∷ 2 ^ 40 ∷ 0 ∷ 1 ∷ []) 8 ≡ gives 0
unfolding product corner_of ones_from reaches
corner_past_zero = refl

corner_before_zero : corner_says (2 ^ 40 ∷ 2 ^ 40 ∷ 0 ∷ 1 ∷ []) 4 ≡ refuses 9
unfolding product corner_of ones_from reaches
corner_before_zero = refl

corner_of_none : corner_says (2 ^ 40 ∷ 2 ^ 40 ∷ 0 ∷ 1 ∷ []) 0 ≡ gives 0
unfolding product corner_of ones_from reaches
corner_of_none = refl

no_axes_strides : strides_says [] 0 ≡ gives []
unfolding product
no_axes_strides = refl
