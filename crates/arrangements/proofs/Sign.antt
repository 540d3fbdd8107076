-- The parity of the inversions of a composition and of an inverse (DLMF 26.13). Assumes nothing.
--   parity_of_compose    the inversions of p after q have the parity of those of p and q together
--   parity_of_inverse    those of the inverse have the parity of those of p
-- The way: where f is applied to a list, a pair changes between an inversion and none exactly if f turns its order. How many pairs f turns does
-- not depend on how the list is arranged, so it can be counted on the identity.
use mathlib.Core.Path.{◌≡◌, refl, sym, ap, ap₂, subst, ◌∙◌}
use mathlib.Core.Logic.{inl, inr}
use mathlib.Core.Bool.{Bool, true, false}
use mathlib.Core.List.{List, [], ◌∷◌, map}
use Prim.Native.Nat.{ℕ, zero, suc, ◌+◌, ◌%◌, ◌≤◌, ◌<◌, zero-le}
use native.Mathlib.Nat.{le_refl}
use native.Mathlib.Omega.{arith}
use borrow.Author.Tests.{lt-ltb, le-ltb, ltb-true, ltb-false}
use lib.Dec.{ltb}
use lib.ListN.{get_or}
use Rattle.words.specs.Pick.{pick}
use Rattle.words.specs.declared.Family.TheVariants.{Forbidden}
use Rattle.words.specs.Word.{Below, Monotone}
use Rattle.words.specs.HowMany.{In, Distinct}
use Rattle.words.specs.Inversions.{smaller_in, inversions, parity}
use Rattle.words.proofs.Inversions.{increasing_has_no_inversions}
use Rattle.words.specs.Members.{stands_in}
use Rattle.words.proofs.Members.{in_below, stands_is_in}
use Rattle.arrangements.specs.Permutation.{Permutation, count_up, identity, compose, inverse}
use Rattle.arrangements.proofs.Places.{by_places}
use Rattle.arrangements.proofs.Smaller.{one_if, weigh, weigh_next, permutation-has}
use Rattle.arrangements.proofs.Group.{identity_is_a_permutation, compose-identity, inverse-is-a-permutation, compose-inverse}

-- ---- sums over a list

sum_over : (ℕ → ℕ) → List ℕ → ℕ
sum_over g [] = 0
sum_over g (x ∷ xs) = g x + sum_over g xs

sum_same : (g h : ℕ → ℕ) (w : List ℕ) → ((x : ℕ) → In x w → g x ≡ h x) → sum_over g w ≡ sum_over h w
unfolding sum_over
sum_same g h [] e = refl
sum_same g h (x ∷ xs) e = ap₂ (λ (a b : ℕ). a + b) (e x (inl refl)) (sum_same g h xs (λ y i. e y (inr i)))

sum_both : (g h : ℕ → ℕ) (w : List ℕ) → sum_over (λ x. g x + h x) w ≡ sum_over g w + sum_over h w
unfolding sum_over
sum_both g h [] = refl
sum_both g h (x ∷ xs) = omega (arith, sum_both g h xs)

-- over a permutation of n entries it is the sum over the numbers below n
sum_below : (ℕ → ℕ) → ℕ → ℕ
sum_below g zero = 0
sum_below g (suc n) = g n + sum_below g n

sum_of_smaller : (g : ℕ → ℕ) (n : ℕ) (w : List ℕ) → Below n w → weigh g n w ≡ sum_over g w
unfolding weigh sum_over
sum_of_smaller g n [] b = refl
sum_of_smaller g n (x ∷ xs) b = ap₂ (λ (t : Bool) (m : ℕ). pick t (g x) 0 + m) (lt-ltb x n b.0) (sum_of_smaller g n xs b.1)

weigh_none : (g : ℕ → ℕ) (w : List ℕ) → weigh g 0 w ≡ 0
unfolding weigh
weigh_none g [] = refl
weigh_none g (x ∷ xs) = ap₂ (λ (t : Bool) (m : ℕ). pick t (g x) 0 + m) (le-ltb x 0 zero-le) (weigh_none g xs)

sum_over_permutation : (g : ℕ → ℕ) (n : ℕ) (p : List ℕ) → Permutation n p → sum_over g p ≡ sum_below g n
unfolding sum_below
sum_over_permutation g n p h = sym (sum_of_smaller g n p h.below) ∙ up n (le_refl n)
  where
    has : (d : ℕ) → d < n → stands_in d p ≡ true
    has d l = (stands_is_in d p).1 (permutation-has n p h d l)

    up : (d : ℕ) → d ≤ n → weigh g d p ≡ sum_below g d
    up zero l = weigh_none g p
    up (suc d) l = weigh_next g d p h.distinct ∙ ap₂ (λ (t : Bool) (m : ℕ). pick t (g d) 0 + m) (has d l) (up d (omega arith))

-- ---- the pairs whose order a function turns

turned : (ℕ → ℕ) → ℕ → ℕ → ℕ
turned f x y = (one_if (ltb (f y) (f x)) + one_if (ltb y x)) % 2

one_way : (x y : ℕ) → (x ≡ y → ⊥) → one_if (ltb y x) + one_if (ltb x y) ≡ 1
one_way x y apart = go (ltb x y) refl
  where
    go : (t : Bool) → ltb x y ≡ t → one_if (ltb y x) + one_if (ltb x y) ≡ 1
    go true e = omega (arith, ap one_if e, ap one_if (le-ltb y x (omega (arith, ltb-true x y e))))
    go false e = omega (arith, ap one_if e, ap one_if (lt-ltb y x (omega (arith, ltb-false x y e))))

turned_either_way : (f : ℕ → ℕ) (x y : ℕ) → (x ≡ y → ⊥) → (f x ≡ f y → ⊥) → turned f y x ≡ turned f x y
unfolding turned
turned_either_way f x y a b = omega (arith, one_way x y a, one_way (f x) (f y) b)

turned_none : (f : ℕ → ℕ) (x : ℕ) → turned f x x ≡ 0
unfolding turned
turned_none f x = omega (arith, ap one_if (le-ltb x x (le_refl x)), ap one_if (le-ltb (f x) (f x) (le_refl (f x))))

reversals : (ℕ → ℕ) → List ℕ → ℕ
reversals f [] = 0
reversals f (x ∷ xs) = sum_over (turned f x) xs + reversals f xs

-- a pair that is turned is an inversion either before or after
smaller-parity : (f : ℕ → ℕ) (x : ℕ) (w : List ℕ) → parity (smaller_in (f x) (map f w) + smaller_in x w) ≡ parity (sum_over (turned f x) w)
unfolding smaller_in sum_over turned
smaller-parity f x [] = refl
smaller-parity f x (y ∷ ys) = omega (arith, smaller-parity f x ys)

reversals-parity : (f : ℕ → ℕ) (w : List ℕ) → parity (inversions (map f w) + inversions w) ≡ parity (reversals f w)
unfolding inversions reversals
reversals-parity f [] = refl
reversals-parity f (x ∷ xs) = omega (arith, smaller-parity f x xs, reversals-parity f xs)

-- f takes no two entries of w to one number
Injective : (ℕ → ℕ) → List ℕ → Type 0
Injective f w = (x y : ℕ) → In x w → In y w → f x ≡ f y → x ≡ y

-- each unordered pair is two ordered ones
reversals-twice : (f : ℕ → ℕ) (w : List ℕ) → Distinct w → Injective f w → sum_over (λ x. sum_over (turned f x) w) w ≡ reversals f w + reversals f w
unfolding sum_over reversals Injective
reversals-twice f [] d j = refl
reversals-twice f (x ∷ xs) d j =
    omega (
      arith,
      turned_none f x,
      sum_both (λ z. turned f z x) (λ z. sum_over (turned f z) xs) xs,
      sum_same (λ z. turned f z x) (turned f x) xs other,
      reversals-twice f xs d.1 (λ a b h k. j a b (inr h) (inr k)),
    )
  where
    other : (z : ℕ) → In z xs → turned f z x ≡ turned f x z
    other z h = turned_either_way f x z (λ e. d.0 (subst (λ (v : ℕ). In v xs) (sym e) h)) (λ e. d.0 (subst (λ (v : ℕ). In v xs) (sym (j x z (inl refl) (inr h) e)) h))

-- so their number does not depend on the arrangement
reversals_of_permutation : (f : ℕ → ℕ) (n : ℕ) (p : List ℕ) → Permutation n p → Injective f p
    → reversals f p + reversals f p ≡ sum_below (λ x. sum_below (turned f x) n) n
reversals_of_permutation f n p h j =
    sym (reversals-twice f p h.distinct j)
    ∙ sum_same (λ x. sum_over (turned f x) p) (λ x. sum_below (turned f x) n) p (λ x i. sum_over_permutation (turned f x) n p h)
    ∙ sum_over_permutation (λ x. sum_below (turned f x) n) n p h

-- ---- composition and inverse

count_up_increases : (i n : ℕ) → Monotone Forbidden (count_up i n)
count_up_increases i zero = tt
count_up_increases i (suc zero) = tt
count_up_increases i (suc (suc n)) = (le_refl (suc i), count_up_increases (suc i) (suc n))

inversions_of_identity : (n : ℕ) → inversions (identity n) ≡ 0
inversions_of_identity n = increasing_has_no_inversions Forbidden (identity n) (count_up_increases 0 n)

pub parity_of_compose : (n : ℕ) (p q : List ℕ) → Permutation n p → Permutation n q → parity (inversions (compose p q)) ≡ parity (inversions p + inversions q)
unfolding Injective
parity_of_compose n p q g h = omega (arith, both)
  where
    f : ℕ → ℕ
    f i = get_or p i 0

    injective : (w : List ℕ) → Permutation n w → (x y : ℕ) → In x w → In y w → f x ≡ f y → x ≡ y
    injective w k x y a b e = (by_places n p g).apart x y (in_below n x w k.below a) (in_below n y w k.below b) e

    same : reversals f q ≡ reversals f (identity n)
    same =
        omega (
          arith,
          reversals_of_permutation f n q h (injective q h),
          reversals_of_permutation f n (identity n) (identity_is_a_permutation n) (injective (identity n) (identity_is_a_permutation n)),
        )

    left : parity (inversions p) ≡ parity (reversals f (identity n))
    left = omega (arith, reversals-parity f (identity n), ap inversions (compose-identity n p g.long), inversions_of_identity n)

    both : parity (inversions (compose p q) + inversions q) ≡ parity (inversions p)
    both = reversals-parity f q ∙ ap parity same ∙ sym left

pub parity_of_inverse : (n : ℕ) (p : List ℕ) → Permutation n p → parity (inversions (inverse p)) ≡ parity (inversions p)
parity_of_inverse n p h =
    omega (
      arith,
      parity_of_compose n p (inverse p) h (inverse-is-a-permutation n p h),
      ap inversions (compose-inverse n p h),
      inversions_of_identity n,
    )
