-- Digit tuples as a loop over the axes meets them. Assumes nothing.
--   within_is_digits    the test of a tuple of as many digits as radices says Digits
--   within_turn, within_end    the digit at one axis, and the end of the axes
--   Above rs ds n i    n is the number of the digits from axis i up
--   above_starts, above_turn, above_ends    no digit, one digit more, and all
--   above_fits    it is no larger than the number of all digits
use mathlib.Core.Path.{◌≡◌, refl, sym, ap, ap₂, ◌∙◌}
use mathlib.Core.Bool.{Bool, true, false}
use mathlib.Core.Logic.{◌↔◌}
use mathlib.Core.List.{List, [], ◌∷◌}
use Prim.Native.Nat.{ℕ, suc, ◌+◌, ◌-◌, ◌*◌, ◌<◌, ◌≤◌}
use native.Mathlib.Nat.{suc_inj, suc-ne-zero}
use native.Mathlib.Numerals.{add-one}
use native.Mathlib.Omega.{arith}
use borrow.Author.Tests.{ltb-true, lt-ltb}
use lib.Dec.{ltb}
use lib.ListN.{length, get_or, drop, drop_of_length-le}
use lib.Seq.{drop-cons, drop-length}
use Rattle.words.specs.Pick.{pick}
use Rattle.positional.specs.Positional.{Digits, positional_value}
use Rattle.positional.proofs.Digits.{digits_long}
use Rattle.positional.proofs.Parts.{number_high_least}
use Rattle.cartesian.specs.Checks.{within}

-- ---- the test of a tuple

pub within_is_digits : (rs ds : List ℕ) → length ds ≡ length rs → (within rs ds ≡ true) ↔ Digits rs ds
within_is_digits rs ds e = (to rs ds e, from rs ds)
  where
    to : (rs ds : List ℕ) → length ds ≡ length rs → within rs ds ≡ true → Digits rs ds
    to [] [] e w = tt
    to [] (d ∷ ds) e w = suc-ne-zero (length ds) e
    to (r ∷ rs) [] e w = suc-ne-zero (length rs) (sym e)
    to (r ∷ rs) (d ∷ ds) e w = go (ltb d r) refl w (to rs ds (suc_inj e))
      where
        go : (t : Bool) → ltb d r ≡ t → pick t (within rs ds) false ≡ true → (within rs ds ≡ true → Digits rs ds) → Digits (r ∷ rs) (d ∷ ds)
        go true s w more = (ltb-true d r s, more w)
        go false s w more = absurd (let z : ◌≡◌ {A = ℕ} 0 1 = cc in omega arith)

    from : (rs ds : List ℕ) → Digits rs ds → within rs ds ≡ true
    from [] ds g = refl
    from (r ∷ rs) [] g = refl
    from (r ∷ rs) (d ∷ ds) g = ap (λ (t : Bool). pick t (within rs ds) false) (lt-ltb d r g.0) ∙ from rs ds g.1

pub within_turn : (rs ds : List ℕ) (i : ℕ) → i < length rs → length ds ≡ length rs
    → within (drop i rs) (drop i ds) ≡ pick (ltb (get_or ds i 0) (get_or rs i 0)) (within (drop (i + 1) rs) (drop (i + 1) ds)) false
within_turn rs ds i h e =
    ap₂ within (drop-cons rs i 0 h) (drop-cons ds i 0 (omega arith))
    ∙ ap (λ (j : ℕ). pick (ltb (get_or ds i 0) (get_or rs i 0)) (within (drop j rs) (drop j ds)) false) (sym (add-one i))

pub within_end : (rs ds : List ℕ) (i : ℕ) → length rs ≤ i → within (drop i rs) (drop i ds) ≡ true
within_end rs ds i h = ap (λ (l : List ℕ). within l (drop i ds)) (drop_of_length-le rs h)

-- ---- the number of a tuple, from the highest digit down

pub record Above (rs ds : List ℕ) (n i : ℕ) : Type 0 where
  pub axes : i ≤ length rs
  pub is : n ≡ positional_value (drop i rs) (drop i ds)

pub above_starts : (rs ds : List ℕ) → Above rs ds 0 (length rs)
unfolding positional_value
above_starts rs ds = record { axes = omega arith; is = sym (ap (λ (l : List ℕ). positional_value l (drop (length rs) ds)) (drop-length rs)) }

-- one digit more: j is the axis below i
pub above_turn : (rs ds : List ℕ) (n i : ℕ) → Digits rs ds → Above rs ds n i → 0 < i → Above rs ds (n * get_or rs (i - 1) 0 + get_or ds (i - 1) 0) (i - 1)
unfolding positional_value
above_turn rs ds n i g k h = go (i - 1) (omega arith)
  where
    go : (j : ℕ) → i ≡ suc j → Above rs ds (n * get_or rs j 0 + get_or ds j 0) j
    go j e =
        record {
          axes = omega (arith, k.axes);
          is = omega (
            arith,
            ap (λ (m : ℕ). get_or rs j 0 * m) (k.is ∙ ap (λ (m : ℕ). positional_value (drop m rs) (drop m ds)) e),
            ap₂ positional_value (drop-cons rs j 0 (omega (arith, k.axes))) (drop-cons ds j 0 (omega (arith, k.axes, digits_long rs ds g))),
          );
        }

pub above_fits : (rs ds : List ℕ) (n i : ℕ) → Digits rs ds → Above rs ds n i → n ≤ positional_value rs ds
above_fits rs ds n i g k = omega (arith, k.is, number_high_least rs ds i g)

pub above_ends : (rs ds : List ℕ) (n i : ℕ) → Above rs ds n i → i ≡ 0 → n ≡ positional_value rs ds
above_ends rs ds n i k e = k.is ∙ ap (λ (j : ℕ). positional_value (drop j rs) (drop j ds)) e
