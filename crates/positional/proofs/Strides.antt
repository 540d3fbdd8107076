-- Products of radices, strides, and a number as the sum of its digits times their strides. Assumes nothing.
--   product_append    the product of a list in two parts
--   stride_next    the stride after a position is its stride times its radix
--   product-split    the product by the stride of a position and the radices from there up
--   radix_pos, zero_radix    no radix of a product that is not 0 is 0; a product with a radix 0 is 0
--   values_long, values_at    the list of the values of f
--   strides_long, strides_at    the list of the strides
--   number_is_weighed    a number is the sum of its digits times their strides
use mathlib.Core.Path.{◌≡◌, refl, sym, ap, ◌∙◌}
use mathlib.Core.List.{List, [], ◌∷◌, ◌++◌}
use Prim.Native.Nat.{ℕ, zero, suc, ◌+◌, ◌*◌, ◌<◌}
use native.Mathlib.Nat.{not-suc-le-zero, le_of_suc-le-suc, zero-lt-suc, lt_of_mul-lt-mul_left, one-mul, mul-one}
use native.Mathlib.Omega.{arith}
use lib.ListN.{length, get_or, take, drop, take-append-drop}
use lib.Seq.{take-suc}
use Rattle.positional.specs.Positional.{product, stride, values_below, strides, positional_value, weighed}

pub product_append : (rs ss : List ℕ) → product (rs ++ ss) ≡ product rs * product ss
unfolding product
product_append [] ss = sym (one-mul (product ss))
product_append (r ∷ rs) ss = omega (arith, ap (λ (p : ℕ). r * p) (product_append rs ss))

pub stride_next : (rs : List ℕ) (i : ℕ) → i < length rs → stride rs (suc i) ≡ stride rs i * get_or rs i 0
unfolding product
stride_next rs i h = ap product (take-suc rs i 0 h) ∙ product_append (take i rs) (get_or rs i 0 ∷ []) ∙ ap (λ (r : ℕ). stride rs i * r) (mul-one (get_or rs i 0))

pub radix_pos : (rs : List ℕ) (i : ℕ) → 0 < product rs → i < length rs → 0 < get_or rs i 0
unfolding product
radix_pos [] i p h = absurd (not-suc-le-zero h)
radix_pos (zero ∷ rs) i p h = absurd (omega arith)
radix_pos (suc r ∷ rs) zero p h = zero-lt-suc r
radix_pos (suc r ∷ rs) (suc i) p h = radix_pos rs i (lt_of_mul-lt-mul_left (suc r) (omega arith)) (le_of_suc-le-suc h)

pub product-split : (rs : List ℕ) (i : ℕ) → product rs ≡ stride rs i * product (drop i rs)
product-split rs i = ap product (sym (take-append-drop i rs)) ∙ product_append (take i rs) (drop i rs)

pub zero_radix : (rs : List ℕ) (i : ℕ) → i < length rs → get_or rs i 0 ≡ 0 → product rs ≡ 0
zero_radix rs i h e = go (product rs) refl
  where
    go : (p : ℕ) → product rs ≡ p → p ≡ 0
    go zero q = refl
    go (suc p) q = absurd (omega (arith, radix_pos rs i (omega arith) h))

-- ---- the list of the strides

pub values_long : (f : ℕ → ℕ) (n : ℕ) → length (values_below f n) ≡ n
values_long f zero = refl
values_long f (suc n) = ap suc (values_long (λ i. f (suc i)) n)

pub values_at : (f : ℕ → ℕ) (n i : ℕ) → i < n → get_or (values_below f n) i 0 ≡ f i
values_at f zero i h = absurd (not-suc-le-zero h)
values_at f (suc n) zero h = refl
values_at f (suc n) (suc i) h = values_at (λ j. f (suc j)) n i (le_of_suc-le-suc h)

pub strides_long : (rs : List ℕ) → length (strides rs) ≡ length rs
strides_long rs = values_long (stride rs) (length rs)

pub strides_at : (rs : List ℕ) (i : ℕ) → i < length rs → get_or (strides rs) i 0 ≡ stride rs i
strides_at rs i h = values_at (stride rs) (length rs) i h

-- ---- a number by the strides

-- where the strides start at s
weighed_from : (rs ds : List ℕ) (s : ℕ) (f : ℕ → ℕ) → ((i : ℕ) → f i ≡ s * stride rs i) → weighed ds (values_below f (length rs)) ≡ s * positional_value rs ds
unfolding product positional_value
weighed_from [] [] s f e = omega arith
weighed_from [] (d ∷ ds) s f e = omega arith
weighed_from (r ∷ rs) [] s f e = omega arith
weighed_from (r ∷ rs) (d ∷ ds) s f e =
    omega (arith, ap (λ (x : ℕ). d * x) (e 0), weighed_from rs ds (s * r) (λ i. f (suc i)) (λ i. omega (arith, e (suc i))))

pub number_is_weighed : (rs ds : List ℕ) → positional_value rs ds ≡ weighed ds (strides rs)
number_is_weighed rs ds = sym (weighed_from rs ds 1 (stride rs) (λ i. sym (one-mul (stride rs i))) ∙ one-mul (positional_value rs ds))
