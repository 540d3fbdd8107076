-- The promises of the calls on shapes, as theorems about what they say. Assumes nothing.
--   count_is_how_many_tuples    the count is how many digit tuples the shape has
--   how_many_tuples_is_the_count    and a shape of at most 16 axes that has c digit tuples counts c, or refuses 9 if c is 2^64 or more: nothing else decides
--   zero_radix_counts_none    a shape with a radix 0, at whatever axis, counts 0
--   zero_radix_has_no_tuple    delinearize of it is 3 for every number
--   zero_radix_has_no_number    linearize of it is 7 for every tuple of as many digits
--   linearize_is_how_many_earlier    the number of a tuple is how many tuples of the shape stand earlier in colex order
--   linearize_keeps_the_order    of two tuples, the earlier has the smaller number
--   linearize_answers, delinearize_answers    where the shape has a count, each tuple has a number below it, and each number below it a tuple
--   delinearize_of_linearize, linearize_of_delinearize    the two are inverse where they answer
--   linearize_by_strides    the number of a tuple is the sum of its digits times their strides
use mathlib.Core.Path.{◌≡◌, refl, sym, ap, subst, ◌∙◌}
use mathlib.Core.Bool.{Bool, true, false}
use mathlib.Core.Logic.{◌↔◌}
use mathlib.Core.List.{List}
use Prim.Native.Nat.{ℕ, ◌<◌, ◌≤◌, zero-le}
use native.Mathlib.Omega.{arith}
use borrow.Author.Tests.{le-ltb, le-leb, eq-eqb}
use lib.ListN.{length, get_or}
use Rattle.words.specs.Colex.{ColexLt}
use Rattle.words.specs.HowMany.{HowMany}
use Rattle.words.proofs.Colex.{to_colex, from_colex}
use Rattle.words.proofs.HowMany.{how_many_is_one_number}
use Rattle.positional.specs.Positional.{product, strides, Digits, positional_value, weighed, digits_of}
use Rattle.positional.proofs.Digits.{digit_below, number_below, digits-good, number_of_digits, digits_of_number}
use Rattle.positional.proofs.Counted.{number-rises, before_of_number, product_is_how_many_digits, number_is_how_many_earlier}
use Rattle.positional.proofs.Strides.{zero_radix, number_is_weighed}
use Rattle.answers.specs.Says.{refuses, gives}
use Rattle.cartesian.specs.Checks.{number_says, within}
use Rattle.cartesian.specs.Rules.{shape_count_says, linearize_says, delinearize_says}
use Rattle.cartesian.proofs.Fits.{fits_small}
use Rattle.cartesian.proofs.Tuples.{within_is_digits}
use Rattle.cartesian.proofs.Rules.{count_given, Linear, linearize_given, linearize_gives, Delinear, delinearize_given, delinearize_gives}

-- ---- what is counted

pub count_is_how_many_tuples : (rs : List ℕ) (c : ℕ) → shape_count_says rs ≡ gives c → HowMany (Digits rs) c
count_is_how_many_tuples rs c e = subst (HowMany (Digits rs)) (sym (count_given rs c e).is) (product_is_how_many_digits rs)

pub linearize_is_how_many_earlier : (rs ds : List ℕ) (x : ℕ) → linearize_says rs ds ≡ gives x → HowMany (λ es. Digits rs es × ColexLt es ds) x
linearize_is_how_many_earlier rs ds x e =
    let l : Linear rs ds x = linearize_given rs ds x e in
    subst (HowMany (λ es. Digits rs es × ColexLt es ds)) (sym l.is) (number_is_how_many_earlier rs ds l.good)

pub linearize_keeps_the_order : (rs ds es : List ℕ) (x y : ℕ) → linearize_says rs ds ≡ gives x → linearize_says rs es ≡ gives y → ColexLt ds es ↔ (x < y)
linearize_keeps_the_order rs ds es x y e f =
    let l : Linear rs ds x = linearize_given rs ds x e in
    let m : Linear rs es y = linearize_given rs es y f in (
      λ c. omega (arith, l.is, m.is, number-rises rs ds es l.good m.good (from_colex ds es c)),
      λ h. to_colex ds es (before_of_number rs ds es l.good m.good (omega (arith, l.is, m.is))),
    )

pub how_many_tuples_is_the_count : (rs : List ℕ) (c : ℕ) → length rs ≤ 16 → HowMany (Digits rs) c → shape_count_says rs ≡ number_says c
how_many_tuples_is_the_count rs c l h =
    simp (le-ltb 16 (length rs) l) (ap number_says (how_many_is_one_number (Digits rs) (product rs) c (product_is_how_many_digits rs) h))

-- ---- a radix 0, at axis i

pub zero_radix_counts_none : (rs : List ℕ) (i : ℕ) → length rs ≤ 16 → i < length rs → get_or rs i 0 ≡ 0 → shape_count_says rs ≡ gives 0
zero_radix_counts_none rs i l h e = simp (le-ltb 16 (length rs) l) (ap number_says (zero_radix rs i h e) ∙ fits_small 0 (omega arith))

pub zero_radix_has_no_tuple : (rs : List ℕ) (i x room : ℕ) → length rs ≤ 16 → i < length rs → get_or rs i 0 ≡ 0 → delinearize_says rs x room ≡ refuses 3
zero_radix_has_no_tuple rs i x room l h e = simp (zero_radix_counts_none rs i l h e, le-leb 0 x zero-le)

pub zero_radix_has_no_number : (rs ds : List ℕ) (i : ℕ) → length rs ≤ 16 → i < length rs → get_or rs i 0 ≡ 0 → length ds ≡ length rs → linearize_says rs ds ≡ refuses 7
zero_radix_has_no_number rs ds i l h e k = simp (le-ltb 16 (length rs) l, eq-eqb (length ds) (length rs) k, none (within rs ds) refl)
  where
    none : (t : Bool) → within rs ds ≡ t → t ≡ false
    none true w = absurd (omega (arith, digit_below rs ds ((within_is_digits rs ds k).0 w) i h))
    none false w = refl

-- ---- the two ways

pub linearize_answers : (rs ds : List ℕ) (c : ℕ) → shape_count_says rs ≡ gives c → Digits rs ds → (x : ℕ) × (linearize_says rs ds ≡ gives x) × (x < c)
linearize_answers rs ds c e g =
    (positional_value rs ds, linearize_gives rs ds c e g, omega (arith, number_below rs ds g, (count_given rs c e).is))

pub delinearize_answers : (rs : List ℕ) (x room c : ℕ) → shape_count_says rs ≡ gives c → x < c → length rs ≤ room
    → (ds : List ℕ) × (delinearize_says rs x room ≡ gives ds) × Digits rs ds
delinearize_answers rs x room c e h l =
    (digits_of rs x, delinearize_gives rs x room c e h l, digits-good rs x (omega (arith, (count_given rs c e).is)))

pub delinearize_of_linearize : (rs ds : List ℕ) (x room : ℕ) → linearize_says rs ds ≡ gives x → length rs ≤ room → delinearize_says rs x room ≡ gives ds
delinearize_of_linearize rs ds x room e h =
    let l : Linear rs ds x = linearize_given rs ds x e in
    delinearize_gives rs x room l.count l.counted (omega (arith, l.is, number_below rs ds l.good, (count_given rs l.count l.counted).is)) h
    ∙ ap gives (ap (digits_of rs) l.is ∙ digits_of_number rs ds l.good)

pub linearize_of_delinearize : (rs ds : List ℕ) (x room : ℕ) → delinearize_says rs x room ≡ gives ds → linearize_says rs ds ≡ gives x
linearize_of_delinearize rs ds x room e =
    let d : Delinear rs x room ds = delinearize_given rs x room ds e in
    ap (linearize_says rs) d.is
    ∙ linearize_gives rs (digits_of rs x) d.count d.counted (digits-good rs x d.below)
    ∙ ap gives (number_of_digits rs x d.below)

-- ---- strides and corners

pub linearize_by_strides : (rs ds : List ℕ) (x : ℕ) → linearize_says rs ds ≡ gives x → x ≡ weighed ds (strides rs)
linearize_by_strides rs ds x e = (linearize_given rs ds x e).is ∙ number_is_weighed rs ds
