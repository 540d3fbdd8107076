-- Numbers in parts: two digit words one after the other, and a position taken out. Assumes nothing.
--   digits_append, number_append    the digits of two lists of radices, one after the other: the first has the lowest digits
--   digits-take    good digits below a position
--   number-split    a number by these two parts of its digits
--   number-low, number-high    what it leaves, and what it goes to, at a division by the stride
--   number_high_least    it is no smaller than its digits from a position up make
--   digits_of_long, digit_is    a number has as many digits as there are radices; the digit at a position, by its stride
--   number_without    a position taken out: the digits below keep their place, those above slide down one
use mathlib.Core.Path.{◌≡◌, refl, sym, ap, ap₂, ◌∙◌}
use mathlib.Core.List.{List, [], ◌∷◌, ◌++◌}
use Prim.Native.Nat.{ℕ, zero, suc, ◌+◌, ◌*◌, ◌/◌, ◌%◌, ◌<◌, ◌≤◌}
use native.Mathlib.Nat.{not-suc-le-zero, le_of_suc-le-suc, mul-le-mul_right, div-one, div-div-eq-div-mul}
use native.Mathlib.Omega.{arith}
use lib.ListN.{length, get_or, take, drop, take-append-drop}
use Rattle.words.specs.Without.{without}
use Rattle.positional.specs.Positional.{product, stride, Digits, positional_value, digits_of}
use Rattle.positional.proofs.Digits.{digits_long, number_below, lowest-digit, upper_digits}

pub digits_append : (rs ds ss es : List ℕ) → Digits rs ds → Digits ss es → Digits (rs ++ ss) (ds ++ es)
digits_append [] [] ss es g k = k
digits_append [] (d ∷ ds) ss es g k = absurd g
digits_append (r ∷ rs) [] ss es g k = absurd g
digits_append (r ∷ rs) (d ∷ ds) ss es g k = (g.0, digits_append rs ds ss es g.1 k)

pub number_append : (rs ds ss es : List ℕ) → length ds ≡ length rs → positional_value (rs ++ ss) (ds ++ es) ≡ positional_value rs ds + product rs * positional_value ss es
unfolding product positional_value
number_append [] [] ss es e = omega arith
number_append [] (d ∷ ds) ss es e = absurd (omega arith)
number_append (r ∷ rs) [] ss es e = absurd (omega arith)
number_append (r ∷ rs) (d ∷ ds) ss es e = omega (arith, ap (λ (n : ℕ). r * n) (number_append rs ds ss es (omega arith)))

-- ---- the digits below a position, and from there up

pub digits-take : (rs ds : List ℕ) (i : ℕ) → Digits rs ds → Digits (take i rs) (take i ds)
digits-take rs ds zero g = tt
digits-take [] [] (suc i) g = tt
digits-take [] (d ∷ ds) (suc i) g = absurd g
digits-take (r ∷ rs) [] (suc i) g = absurd g
digits-take (r ∷ rs) (d ∷ ds) (suc i) g = (g.0, digits-take rs ds i g.1)

pub number-split : (rs ds : List ℕ) (i : ℕ) → Digits rs ds → positional_value rs ds ≡ positional_value (take i rs) (take i ds) + stride rs i * positional_value (drop i rs) (drop i ds)
number-split rs ds i g =
    sym (ap₂ positional_value (take-append-drop i rs) (take-append-drop i ds))
    ∙ number_append (take i rs) (take i ds) (drop i rs) (drop i ds) (digits_long (take i rs) (take i ds) (digits-take rs ds i g))

pub number-low : (rs ds : List ℕ) (i : ℕ) → Digits rs ds → positional_value rs ds % stride rs i ≡ positional_value (take i rs) (take i ds)
number-low rs ds i g =
    ap (λ (x : ℕ). x % stride rs i) (number-split rs ds i g)
    ∙ lowest-digit (stride rs i) (positional_value (take i rs) (take i ds)) (positional_value (drop i rs) (drop i ds)) (number_below (take i rs) (take i ds) (digits-take rs ds i g))

pub number-high : (rs ds : List ℕ) (i : ℕ) → Digits rs ds → positional_value rs ds / stride rs i ≡ positional_value (drop i rs) (drop i ds)
number-high rs ds i g =
    ap (λ (x : ℕ). x / stride rs i) (number-split rs ds i g)
    ∙ upper_digits (stride rs i) (positional_value (take i rs) (take i ds)) (positional_value (drop i rs) (drop i ds)) (number_below (take i rs) (take i ds) (digits-take rs ds i g))

pub number_high_least : (rs ds : List ℕ) (i : ℕ) → Digits rs ds → positional_value (drop i rs) (drop i ds) ≤ positional_value rs ds
number_high_least rs ds i g =
    let l : positional_value (take i rs) (take i ds) < stride rs i = number_below (take i rs) (take i ds) (digits-take rs ds i g) in
    let k : 1 ≤ stride rs i = omega arith in
    omega (arith, number-split rs ds i g, mul-le-mul_right (positional_value (drop i rs) (drop i ds)) k)

pub digits_of_long : (rs : List ℕ) (x : ℕ) → length (digits_of rs x) ≡ length rs
unfolding digits_of
digits_of_long [] x = refl
digits_of_long (r ∷ rs) x = ap suc (digits_of_long rs (x / r))

pub digit_is : (rs : List ℕ) (x i : ℕ) → i < length rs → get_or (digits_of rs x) i 0 ≡ x / stride rs i % get_or rs i 0
unfolding product digits_of
digit_is [] x i h = absurd (not-suc-le-zero h)
digit_is (r ∷ rs) x zero h = ap (λ (y : ℕ). y % r) (sym (div-one x))
digit_is (r ∷ rs) x (suc i) h = digit_is rs (x / r) i (le_of_suc-le-suc h) ∙ ap (λ (y : ℕ). y % get_or rs i 0) (div-div-eq-div-mul x r (stride rs i))

-- ---- a position taken out

pub number_without : (rs ds : List ℕ) (i : ℕ) → Digits rs ds
    → positional_value (without i rs) (without i ds) ≡ positional_value rs ds % stride rs i + stride rs i * (positional_value rs ds / stride rs (suc i))
number_without rs ds i g =
    number_append (take i rs) (take i ds) (drop (suc i) rs) (drop (suc i) ds) (digits_long (take i rs) (take i ds) (digits-take rs ds i g))
    ∙ sym (ap₂ (λ (l h : ℕ). l + stride rs i * h) (number-low rs ds i g) (number-high rs ds (suc i) g))
