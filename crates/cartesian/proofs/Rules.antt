-- What an answer of a call tells of its arguments, and the other way round. Assumes nothing.
--   Counted rs c    the shape has at most 16 axes, and c, its count, is below 2^64
--   count_given    what `shape_count_says` gives
--   Linear rs ds x    the shape has a count, the digits are good, and x is their number
--   linearize_given, linearize_gives    what `linearize_says` gives, and when
--   Delinear rs x room ds    x is below the count of the shape, there is room, and ds are the digits of x
--   delinearize_given, delinearize_gives    what `delinearize_says` gives, and when
use mathlib.Core.Path.{◌≡◌, sym}
use mathlib.Core.Bool.{false, not}
use mathlib.Core.List.{List}
use Prim.Native.Nat.{ℕ, ◌^◌, ◌<◌, ◌≤◌}
use native.Mathlib.Omega.{arith}
use borrow.Author.Tests.{ltb-false, le-ltb, leb-false, lt-leb, eqb-true, eq-eqb, not-false}
use lib.Dec.{leb, ltb, eqb}
use lib.ListN.{length}
use Rattle.positional.specs.Positional.{product, Digits, positional_value, digits_of}
use Rattle.positional.proofs.Digits.{digits_long}
use Rattle.answers.specs.Says.{gives, refused_if, and_then}
use Rattle.answers.proofs.Says.{gives_same, passed, then_gave}
use Rattle.cartesian.specs.Checks.{number_says, within}
use Rattle.cartesian.specs.Rules.{wide, shape_count_says, linearize_says, delinearize_says}
use Rattle.cartesian.proofs.Fits.{fits_given}
use Rattle.cartesian.proofs.Tuples.{within_is_digits}

-- ---- the count

pub record Counted (rs : List ℕ) (c : ℕ) : Type 0 where
  pub axes : length rs ≤ 16
  pub is : c ≡ product rs
  pub number_says : product rs < 2 ^ 64

pub count_given : (rs : List ℕ) (c : ℕ) → shape_count_says rs ≡ gives c → Counted rs c
count_given rs c e = go (passed (wide rs) 1 (number_says (product rs)) c e)
  where
    go : (wide rs ≡ false) × (number_says (product rs) ≡ gives c) → Counted rs c
    go p = record { axes = ltb-false 16 (length rs) p.0; is = (fits_given (product rs) c p.1).1; number_says = (fits_given (product rs) c p.1).0 }

-- ---- the number of a tuple

pub record Linear (rs ds : List ℕ) (x : ℕ) : Type 0 where
  pub count : ℕ
  pub counted : shape_count_says rs ≡ gives count
  pub good : Digits rs ds
  pub is : x ≡ positional_value rs ds

pub linearize_given : (rs ds : List ℕ) (x : ℕ) → linearize_says rs ds ≡ gives x → Linear rs ds x
linearize_given rs ds x e =
    wide-passed (passed (wide rs) 1 (refused_if (not (eqb (length ds) (length rs))) 8 (refused_if (not (within rs ds)) 7 (and_then (number_says (product rs)) (λ c. gives (positional_value rs ds))))) x e)
  where
    sized : wide rs ≡ false → Digits rs ds → (c : ℕ) × (number_says (product rs) ≡ gives c) × (gives (positional_value rs ds) ≡ gives x) → Linear rs ds x
    sized w g t = record { count = t.0; counted = simp (w, t.1); good = g; is = sym (gives_same (positional_value rs ds) x t.2) }

    below-passed : wide rs ≡ false → length ds ≡ length rs → (not (within rs ds) ≡ false) × (and_then (number_says (product rs)) (λ c. gives (positional_value rs ds)) ≡ gives x) → Linear rs ds x
    below-passed w l p = sized w ((within_is_digits rs ds l).0 (not-false (within rs ds) p.0)) (then_gave (number_says (product rs)) (λ c. gives (positional_value rs ds)) x p.1)

    long-passed : wide rs ≡ false → (not (eqb (length ds) (length rs)) ≡ false) × (refused_if (not (within rs ds)) 7 (and_then (number_says (product rs)) (λ c. gives (positional_value rs ds))) ≡ gives x)
        → Linear rs ds x
    long-passed w p =
        below-passed w (eqb-true (length ds) (length rs) (not-false (eqb (length ds) (length rs)) p.0)) (passed (not (within rs ds)) 7 (and_then (number_says (product rs)) (λ c. gives (positional_value rs ds))) x p.1)

    wide-passed : (wide rs ≡ false) × (refused_if (not (eqb (length ds) (length rs))) 8 (refused_if (not (within rs ds)) 7 (and_then (number_says (product rs)) (λ c. gives (positional_value rs ds)))) ≡ gives x)
        → Linear rs ds x
    wide-passed p = long-passed p.0 (passed (not (eqb (length ds) (length rs))) 8 (refused_if (not (within rs ds)) 7 (and_then (number_says (product rs)) (λ c. gives (positional_value rs ds)))) x p.1)

pub linearize_gives : (rs ds : List ℕ) (c : ℕ) → shape_count_says rs ≡ gives c → Digits rs ds → linearize_says rs ds ≡ gives (positional_value rs ds)
linearize_gives rs ds c e g = go (passed (wide rs) 1 (number_says (product rs)) c e)
  where
    go : (wide rs ≡ false) × (number_says (product rs) ≡ gives c) → linearize_says rs ds ≡ gives (positional_value rs ds)
    go p =
        let l : length ds ≡ length rs = digits_long rs ds g in
        simp (p.0, eq-eqb (length ds) (length rs) l, (within_is_digits rs ds l).1 g, p.1)

-- ---- the tuple of a number

pub record Delinear (rs : List ℕ) (x room : ℕ) (ds : List ℕ) : Type 0 where
  pub count : ℕ
  pub counted : shape_count_says rs ≡ gives count
  pub below : x < product rs
  pub number_says : length rs ≤ room
  pub is : ds ≡ digits_of rs x

pub delinearize_given : (rs : List ℕ) (x room : ℕ) (ds : List ℕ) → delinearize_says rs x room ≡ gives ds → Delinear rs x room ds
delinearize_given rs x room ds e = go (then_gave (shape_count_says rs) (λ c. refused_if (leb c x) 3 (refused_if (ltb room (length rs)) 8 (gives (digits_of rs x)))) ds e)
  where
    go : (c : ℕ) × (shape_count_says rs ≡ gives c) × (refused_if (leb c x) 3 (refused_if (ltb room (length rs)) 8 (gives (digits_of rs x))) ≡ gives ds) → Delinear rs x room ds
    go t = on (passed (leb t.0 x) 3 (refused_if (ltb room (length rs)) 8 (gives (digits_of rs x))) ds t.2)
      where
        on : (leb t.0 x ≡ false) × (refused_if (ltb room (length rs)) 8 (gives (digits_of rs x)) ≡ gives ds) → Delinear rs x room ds
        on p = last (passed (ltb room (length rs)) 8 (gives (digits_of rs x)) ds p.1)
          where
            last : (ltb room (length rs) ≡ false) × (gives (digits_of rs x) ≡ gives ds) → Delinear rs x room ds
            last q =
                record {
                  count = t.0;
                  counted = t.1;
                  below = omega (arith, leb-false t.0 x p.0, (count_given rs t.0 t.1).is);
                  number_says = ltb-false room (length rs) q.0;
                  is = sym (gives_same (digits_of rs x) ds q.1);
                }

pub delinearize_gives : (rs : List ℕ) (x room c : ℕ) → shape_count_says rs ≡ gives c → x < c → length rs ≤ room → delinearize_says rs x room ≡ gives (digits_of rs x)
delinearize_gives rs x room c e h l = simp (e, lt-leb c x h, le-ltb room (length rs) l)
