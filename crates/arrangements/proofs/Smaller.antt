-- How many entries of a list are smaller than a number. Assumes nothing.
--   smaller_one_more    with one place more
--   smaller_at_most    not more than there are entries
--   smaller-monotone, smaller-map    for a greater number, and under a map that keeps the order
--   smaller-split    where the first i are smaller and the others are not, there are i
--   weigh, weigh_next    what the smaller entries weigh, and with the next number: no two entries are the same
--   smaller_in_permutation    d entries of a permutation are smaller than d
--   permutation-has    a permutation of n entries has each number below n
use mathlib.Core.Path.{◌≡◌, refl, sym, ap, ap₂, subst, ◌∙◌}
use mathlib.Core.Bool.{Bool, true, false}
use mathlib.Core.List.{List, [], ◌∷◌, map}
use Prim.Native.Nat.{ℕ, zero, suc, ◌+◌, ◌-◌, ◌≤◌, ◌<◌, zero-le, suc-le-suc}
use native.Mathlib.Nat.{not-suc-le-zero, le_of_suc-le-suc, zero-lt-suc, add-zero, zero-add, add-suc, add-sub_of_le}
use native.Mathlib.Omega.{arith}
use borrow.Author.Tests.{eqb-true, eqb-false, lt-ltb, le-ltb, ltb-true, ltb-false}
use lib.Dec.{ltb, eqb}
use lib.ListN.{length, get_or, take}
use lib.Seq.{take-suc}
use Rattle.words.specs.Pick.{pick}
use Rattle.words.specs.HowMany.{In, Distinct}
use Rattle.words.specs.Inversions.{smaller_in}
use Rattle.words.specs.Members.{stands_in}
use Rattle.words.proofs.Inversions.{smaller_append}
use Rattle.words.proofs.Members.{stands_is_in}
use Rattle.arrangements.specs.Permutation.{Permutation}
use Rattle.arrangements.proofs.Places.{by_places}

-- ---- of any list

-- 1 if the test holds
abbrev pub one_if : Bool → ℕ
one_if t = pick t 1 0

-- one place more
pub smaller_one_more : (x : ℕ) (w : List ℕ) (k : ℕ) → k < length w → smaller_in x (take (suc k) w) ≡ smaller_in x (take k w) + one_if (ltb (get_or w k 0) x)
unfolding smaller_in
smaller_one_more x w k h =
    ap (smaller_in x) (take-suc w k 0 h) ∙ smaller_append x (take k w) (get_or w k 0 ∷ []) ∙ omega arith

pub smaller_at_most : (x : ℕ) (w : List ℕ) → smaller_in x w ≤ length w
unfolding smaller_in
smaller_at_most x [] = zero-le
smaller_at_most x (y ∷ ys) = go (ltb y x) (smaller_at_most x ys)
  where
    go : (t : Bool) → smaller_in x ys ≤ length ys → one_if t + smaller_in x ys ≤ suc (length ys)
    go true h = omega arith
    go false h = omega arith

pub smaller-monotone : (x z : ℕ) → x ≤ z → (w : List ℕ) → smaller_in x w ≤ smaller_in z w
unfolding smaller_in
smaller-monotone x z l [] = zero-le
smaller-monotone x z l (y ∷ ys) = go (ltb y x) refl (ltb y z) refl (smaller-monotone x z l ys)
  where
    go : (s : Bool) → ltb y x ≡ s → (t : Bool) → ltb y z ≡ t → smaller_in x ys ≤ smaller_in z ys → one_if s + smaller_in x ys ≤ one_if t + smaller_in z ys
    go true a true b ih = omega arith
    go true a false b ih = omega (arith, ltb-true y x a, ltb-false y z b)
    go false a t b ih = omega arith

-- f takes what is smaller than x, and nothing else, to what is smaller than z
pub smaller-map : (f : ℕ → ℕ) (x z : ℕ) → ((y : ℕ) → ltb (f y) z ≡ ltb y x) → (w : List ℕ) → smaller_in z (map f w) ≡ smaller_in x w
unfolding smaller_in
smaller-map f x z h [] = refl
smaller-map f x z h (y ∷ ys) = ap₂ (λ (t : Bool) (n : ℕ). one_if t + n) (h y) (smaller-map f x z h ys)

-- the first i entries are smaller than x, and the others are not
pub smaller-split : (x i : ℕ) (w : List ℕ) → i ≤ length w → ((j : ℕ) → j < i → get_or w j 0 < x)
    → ((j : ℕ) → i ≤ j → j < length w → x ≤ get_or w j 0) → smaller_in x w ≡ i
unfolding smaller_in
smaller-split x zero [] l low high = refl
smaller-split x (suc i) [] l low high = absurd (not-suc-le-zero l)
smaller-split x zero (y ∷ ys) l low high =
    ap₂ (λ (t : Bool) (n : ℕ). one_if t + n) (le-ltb y x (high 0 zero-le (zero-lt-suc (length ys))))
    (smaller-split x zero ys zero-le (λ j h. absurd (not-suc-le-zero h)) (λ j h k. high (suc j) zero-le (suc-le-suc k)))
smaller-split x (suc i) (y ∷ ys) l low high =
    ap₂ (λ (t : Bool) (n : ℕ). one_if t + n) (lt-ltb y x (low 0 (zero-lt-suc i)))
    (smaller-split x i ys (le_of_suc-le-suc l) (λ j h. low (suc j) (suc-le-suc h)) (λ j h k. high (suc j) (suc-le-suc h) (suc-le-suc k)))
    ∙ omega arith

-- ---- of a list without repeats

-- what the entries smaller than d weigh together, if y weighs g y
unfoldable pub weigh : (ℕ → ℕ) → ℕ → List ℕ → ℕ
weigh g d [] = 0
weigh g d (y ∷ ys) = pick (ltb y d) (g y) 0 + weigh g d ys

-- d itself is the one entry that is smaller than d + 1 and not smaller than d
pub weigh_next : (g : ℕ → ℕ) (d : ℕ) (w : List ℕ) → Distinct w → weigh g (suc d) w ≡ pick (stands_in d w) (g d) 0 + weigh g d w
unfolding weigh stands_in
weigh_next g d [] a = refl
weigh_next g d (y ∷ ys) a = go (eqb d y) refl (stands_in d ys) refl (ltb y d) refl (weigh_next g d ys a.1)
  where
    if : ℕ → Bool → ℕ
    if n t = pick t n 0

    go : (t : Bool) → eqb d y ≡ t → (s : Bool) → stands_in d ys ≡ s → (r : Bool) → ltb y d ≡ r → weigh g (suc d) ys ≡ pick (stands_in d ys) (g d) 0 + weigh g d ys
        → pick (ltb y (suc d)) (g y) 0 + weigh g (suc d) ys ≡ pick (pick t true (stands_in d ys)) (g d) 0 + (pick (ltb y d) (g y) 0 + weigh g d ys)
    go true p true q r k ih = absurd (a.0 (subst (λ (v : ℕ). In v ys) (eqb-true d y p) ((stands_is_in d ys).0 q)))
    go true p false q r k ih =
        let e : d ≡ y = eqb-true d y p in
        omega (arith, ih, ap g e, ap (if (g d)) q, ap (if (g y)) (lt-ltb y (suc d) (omega arith)), ap (if (g y)) (le-ltb y d (omega arith)))
    go false p s q true k ih = omega (arith, ih, ap (if (g y)) k, ap (if (g y)) (lt-ltb y (suc d) (omega (arith, ltb-true y d k))))
    go false p s q false k ih =
        let apart : d ≡ y → ⊥ = eqb-false d y p in
        omega (arith, ih, ap (if (g y)) k, ap (if (g y)) (le-ltb y (suc d) (omega (arith, ltb-false y d k))))

-- to count them, each weighs 1
smaller_weigh_one : (d : ℕ) (w : List ℕ) → smaller_in d w ≡ weigh (λ y. 1) d w
unfolding smaller_in weigh
smaller_weigh_one d [] = refl
smaller_weigh_one d (y ∷ ys) = ap (λ (n : ℕ). one_if (ltb y d) + n) (smaller_weigh_one d ys)

smaller_next : (d : ℕ) (w : List ℕ) → Distinct w → smaller_in (suc d) w ≡ one_if (stands_in d w) + smaller_in d w
smaller_next d w a = smaller_weigh_one (suc d) w ∙ weigh_next (λ y. 1) d w a ∙ ap (λ (n : ℕ). one_if (stands_in d w) + n) (sym (smaller_weigh_one d w))

-- ---- of a permutation

smaller-rises : (w : List ℕ) → Distinct w → (d k : ℕ) → smaller_in (d + k) w ≤ smaller_in d w + k
smaller-rises w a d zero = omega (arith, ap (λ (x : ℕ). smaller_in x w) (add-zero d))
smaller-rises w a d (suc k) =
    omega (arith, smaller-rises w a d k, ap (λ (x : ℕ). smaller_in x w) (add-suc d k), smaller_next (d + k) w a, at_most_one (stands_in (d + k) w))
  where
    at_most_one : (t : Bool) → one_if t ≤ 1
    at_most_one true = omega arith
    at_most_one false = omega arith

-- d entries of a permutation are smaller than d: not more, as no two are the same, and not fewer, as there are n below n
pub smaller_in_permutation : (n : ℕ) (p : List ℕ) → Permutation n p → (d : ℕ) → d ≤ n → smaller_in d p ≡ d
smaller_in_permutation n p h d l =
    omega (
      arith,
      smaller-rises p h.distinct 0 d,
      ap (λ (x : ℕ). smaller_in x p) (zero-add d),
      smaller-split 0 0 p zero-le (λ j k. absurd (not-suc-le-zero k)) (λ j k m. zero-le),
      smaller-rises p h.distinct d (n - d),
      ap (λ (x : ℕ). smaller_in x p) (add-sub_of_le l),
      smaller-split n n p (omega (arith, h.long)) (by_places n p h).below (λ j k m. omega (arith, h.long)),
    )

-- so each number below n stands in it
pub permutation-has : (n : ℕ) (p : List ℕ) → Permutation n p → (d : ℕ) → d < n → In d p
permutation-has n p h d l = go (stands_in d p) refl
  where
    go : (t : Bool) → stands_in d p ≡ t → In d p
    go true e = (stands_is_in d p).0 e
    go false e =
        absurd
        (omega (arith, smaller_in_permutation n p h d (omega arith), smaller_in_permutation n p h (suc d) l, smaller_next d p h.distinct, ap one_if e))
