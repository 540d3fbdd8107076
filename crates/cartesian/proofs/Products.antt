-- Products of all radices, exactly. Assumes nothing.
--   falling_starts, falling_turn, falling_ends    the product of the radices from an axis up: of none, one more below, and of all
--   passing_starts, passing_turn    no radix below an axis is 0: before the first, and one more
--   passing_stops, passing_ends    the product where one of them is, and where none is and that of the others is 2^64 or more
use mathlib.Core.Path.{◌≡◌, sym, ap, subst, ◌∙◌}
use mathlib.Core.List.{List}
use Prim.Native.Nat.{ℕ, suc, ◌+◌, ◌*◌, ◌-◌, ◌^◌, ◌<◌, ◌≤◌}
use native.Mathlib.Nat.{mul_comm, le-mul_of_pos_right}
use native.Mathlib.Numerals.{add-one}
use native.Mathlib.Omega.{arith}
use lib.ListN.{length, get_or, drop}
use lib.Seq.{drop-cons, drop-length}
use Rattle.positional.specs.Positional.{product, stride}
use Rattle.positional.proofs.Strides.{stride_next, product-split, zero_radix}
use Rattle.answers.specs.Says.{gives, refuses}
use Rattle.cartesian.specs.Checks.{number_says}
use Rattle.cartesian.proofs.Fits.{fits_small, fits_big}

-- ---- the product of all radices, from the last down

pub falling_starts : (rs : List ℕ) → 1 ≡ product (drop (length rs) rs)
unfolding product
falling_starts rs = sym (ap product (drop-length rs))

pub falling_turn : (rs : List ℕ) (p i : ℕ) → p ≡ product (drop i rs) → 0 < i → i ≤ length rs → p * get_or rs (i - 1) 0 ≡ product (drop (i - 1) rs)
unfolding product
falling_turn rs p i e h l = go (i - 1) (omega arith)
  where
    go : (j : ℕ) → i ≡ suc j → p * get_or rs j 0 ≡ product (drop j rs)
    go j q =
        mul_comm p (get_or rs j 0)
        ∙ ap (λ (x : ℕ). get_or rs j 0 * x) (e ∙ ap (λ (m : ℕ). product (drop m rs)) q)
        ∙ sym (ap product (drop-cons rs j 0 (omega arith)))

pub falling_ends : (rs : List ℕ) (p i : ℕ) → p ≡ product (drop i rs) → p < 2 ^ 64 → i ≡ 0 → gives p ≡ number_says (product rs)
falling_ends rs p i e h z =
    let q : p ≡ product rs = e ∙ ap (λ (j : ℕ). product (drop j rs)) z in
    ap gives q ∙ sym (fits_small (product rs) (omega arith))

-- ---- the radices below one from which the product is 2^64 or more

pub passing_starts : (rs : List ℕ) → 0 < stride rs 0
unfolding product
passing_starts rs = omega arith

pub passing_turn : (rs : List ℕ) (i : ℕ) → 0 < stride rs i → i < length rs → (get_or rs i 0 ≡ 0 → ⊥) → 0 < stride rs (i + 1)
passing_turn rs i p h n =
    let some : 0 < get_or rs i 0 = omega (arith, n) in
    omega (arith, ap (stride rs) (add-one i), stride_next rs i h, le-mul_of_pos_right (stride rs i) some)

pub passing_stops : (rs : List ℕ) (i : ℕ) → i < length rs → get_or rs i 0 ≡ 0 → gives 0 ≡ number_says (product rs)
passing_stops rs i h e = sym (ap number_says (zero_radix rs i h e) ∙ fits_small 0 (omega arith))

pub passing_ends : (rs : List ℕ) (j i : ℕ) → 0 < stride rs i → i ≡ j → 2 ^ 64 ≤ product (drop j rs) → refuses 9 ≡ number_says (product rs)
passing_ends rs j i p e h =
    let some : 0 < stride rs j = subst (λ (k : ℕ). 0 < stride rs k) e p in
    sym (fits_big (product rs) (omega (arith, h, product-split rs j, mul_comm (stride rs j) (product (drop j rs)), le-mul_of_pos_right (product (drop j rs)) some)))
