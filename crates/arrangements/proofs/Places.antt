-- Permutations by their places, as a program with an array has them, and the test. Assumes nothing.
--   map_at    what stands at a place of a list to which a function was applied
--   distinct_at    no two places of a list hold the same
--   ByPlaces n p    a permutation by its places; by_places, from_places    it is the permutation of the definition
--   test_passes, test_tells, test_fails    the test for a permutation passes exactly at permutations
use mathlib.Core.Path.{◌≡◌, refl, sym, ap, subst}
use mathlib.Core.Logic.{◌↔◌}
use mathlib.Core.Bool.{Bool, true, false, true≢false}
use mathlib.Core.List.{List, [], ◌∷◌, map}
use Prim.Native.Nat.{ℕ, zero, suc, ◌<◌, suc-le-suc}
use native.Mathlib.Nat.{not-suc-le-zero, le_of_suc-le-suc, zero-lt-suc, suc_inj, suc-ne-zero}
use native.Mathlib.Omega.{arith}
use borrow.Author.Tests.{leb-true, leb-false}
use lib.Dec.{leb}
use lib.ListN.{length, get_or}
use Rattle.words.specs.Pick.{pick}
use Rattle.words.specs.Word.{Below}
use Rattle.words.specs.HowMany.{In, Distinct}
use Rattle.words.specs.Members.{stands_in}
use Rattle.words.proofs.Positions.{below_at}
use Rattle.words.proofs.Members.{at_in, in_at, stands_is_in, stands_is_not_in}
use Rattle.arrangements.specs.Permutation.{Permutation, all_fit, is_permutation}

pub map_at : (f : ℕ → ℕ) (w : List ℕ) (i : ℕ) → i < length w → get_or (map f w) i 0 ≡ f (get_or w i 0)
map_at f [] i h = absurd (not-suc-le-zero h)
map_at f (x ∷ xs) zero h = refl
map_at f (x ∷ xs) (suc i) h = map_at f xs i (le_of_suc-le-suc h)

pub distinct_at : (w : List ℕ) → Distinct w ↔ ((i j : ℕ) → i < length w → j < length w → get_or w i 0 ≡ get_or w j 0 → i ≡ j)
distinct_at w = (to w, from w)
  where
    to : (w : List ℕ) → Distinct w → (i j : ℕ) → i < length w → j < length w → get_or w i 0 ≡ get_or w j 0 → i ≡ j
    to [] d i j h l e = absurd (not-suc-le-zero h)
    to (x ∷ xs) d zero zero h l e = refl
    to (x ∷ xs) d zero (suc j) h l e = absurd (d.0 (subst (λ (v : ℕ). In v xs) (sym e) (at_in xs j (le_of_suc-le-suc l))))
    to (x ∷ xs) d (suc i) zero h l e = absurd (d.0 (subst (λ (v : ℕ). In v xs) e (at_in xs i (le_of_suc-le-suc h))))
    to (x ∷ xs) d (suc i) (suc j) h l e = ap suc (to xs d.1 i j (le_of_suc-le-suc h) (le_of_suc-le-suc l) e)

    from : (w : List ℕ) → ((i j : ℕ) → i < length w → j < length w → get_or w i 0 ≡ get_or w j 0 → i ≡ j) → Distinct w
    from [] f = tt
    from (x ∷ xs) f = (λ h. alone (in_at x xs h), from xs (λ i j h l e. suc_inj (f (suc i) (suc j) (suc-le-suc h) (suc-le-suc l) e)))
      where
        alone : (i : ℕ) × (i < length xs) × (get_or xs i 0 ≡ x) → ⊥
        alone t = suc-ne-zero t.0 (f (suc t.0) 0 (suc-le-suc t.1) (zero-lt-suc (length xs)) t.2)

-- ---- a permutation by its places

pub record ByPlaces (n : ℕ) (p : List ℕ) : Type 0 where
  pub long : length p ≡ n
  pub below : (i : ℕ) → i < n → get_or p i 0 < n
  pub apart : (i j : ℕ) → i < n → j < n → get_or p i 0 ≡ get_or p j 0 → i ≡ j

pub by_places : (n : ℕ) (p : List ℕ) → Permutation n p → ByPlaces n p
by_places n p h =
    record {
      long = h.long;
      below = λ i l. (below_at n p).0 h.below i (omega (arith, h.long));
      apart = λ i j l m. (distinct_at p).0 h.distinct i j (omega (arith, h.long)) (omega (arith, h.long));
    }

pub from_places : (n : ℕ) (p : List ℕ) → ByPlaces n p → Permutation n p
from_places n p h =
    record {
      long = h.long;
      below = (below_at n p).1 (λ i l. h.below i (omega (arith, h.long)));
      distinct = (distinct_at p).1 (λ i j l m. h.apart i j (omega (arith, h.long)) (omega (arith, h.long)));
    }

-- ---- the test

fits : (n : ℕ) (w : List ℕ) → all_fit n w ≡ true → Below n w × Distinct w
fits n [] e = (tt, tt)
fits n (x ∷ xs) e = go (leb n x) refl (stands_in x xs) refl e (fits n xs)
  where
    go : (s : Bool) → leb n x ≡ s → (t : Bool) → stands_in x xs ≡ t → pick s false (pick t false (all_fit n xs)) ≡ true
        → (all_fit n xs ≡ true → Below n xs × Distinct xs) → Below n (x ∷ xs) × Distinct (x ∷ xs)
    go true a t b e ih = absurd (true≢false (sym e))
    go false a true b e ih = absurd (true≢false (sym e))
    go false a false b e ih = ((leb-false n x a, (ih e).0), ((stands_is_not_in x xs).0 b, (ih e).1))

fits_not : (n : ℕ) (w : List ℕ) → all_fit n w ≡ false → Below n w → Distinct w → ⊥
fits_not n [] e b d = true≢false e
fits_not n (x ∷ xs) e b d = go (leb n x) refl (stands_in x xs) refl e (fits_not n xs)
  where
    go : (s : Bool) → leb n x ≡ s → (t : Bool) → stands_in x xs ≡ t → pick s false (pick t false (all_fit n xs)) ≡ false
        → (all_fit n xs ≡ false → Below n xs → Distinct xs → ⊥) → ⊥
    go true p t q e ih = omega (arith, leb-true n x p, b.0)
    go false p true q e ih = d.0 ((stands_is_in x xs).0 q)
    go false p false q e ih = ih e b.1 d.1

pub test_passes : (n : ℕ) (p : List ℕ) → Permutation n p → is_permutation p ≡ true
unfolding is_permutation
test_passes n p h = go (all_fit (length p) p) refl
  where
    go : (t : Bool) → all_fit (length p) p ≡ t → all_fit (length p) p ≡ true
    go true e = e
    go false e = absurd (fits_not (length p) p e (subst (λ (m : ℕ). Below m p) (sym h.long) h.below) h.distinct)

pub test_tells : (n : ℕ) (p : List ℕ) → length p ≡ n → is_permutation p ≡ true → Permutation n p
unfolding is_permutation
test_tells n p l e = record { long = l; below = subst (λ (m : ℕ). Below m p) l (fits (length p) p e).0; distinct = (fits (length p) p e).1 }

pub test_fails : (n : ℕ) (p : List ℕ) → length p ≡ n → (Permutation n p → ⊥) → is_permutation p ≡ false
test_fails n p l h = go (is_permutation p) refl
  where
    go : (t : Bool) → is_permutation p ≡ t → is_permutation p ≡ false
    go true e = absurd (h (test_tells n p l e))
    go false e = e
