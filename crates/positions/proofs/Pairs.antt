-- What the counts of words count, by positions. Assumes nothing.
--   multiplicity_is_how_many_positions    the multiplicity of x in w is how many positions of w hold x
--   inversions_is_how_many_pairs    the inversions of w are how many pairs of positions i < j of w have the symbol at i larger
--   crossings_is_how_many_pairs    the crossings of u and v are how many pairs of a position of u and one of v have the symbol of u larger
--   repeats_is_how_many_pairs    the repeats of w are how many pairs of positions i < j of w hold one symbol
--   no_repeats_is_distinct    so w has no repeats exactly if no symbol stands at two positions of it
--   equal_pairs_is_how_many_pairs    the equal pairs of u and v are how many pairs of a position of u and one of v hold one symbol
-- Each goes by a test of two symbols, so that the law is proved once for all of them.
use mathlib.Core.Path.{◌≡◌, refl, sym, ap, ap₂, subst, ◌∙◌}
use mathlib.Core.Bool.{Bool, true}
use mathlib.Core.Logic.{◌⊎◌, inl, inr, ◌↔◌}
use mathlib.Core.List.{List, [], ◌∷◌}
use Prim.Native.Nat.{ℕ, zero, suc, ◌+◌, ◌<◌, suc-le-suc}
use native.Mathlib.Nat.{not-suc-le-zero, le_of_suc-le-suc, zero-lt-suc, suc_inj}
use native.Mathlib.Omega.{arith}
use borrow.Author.Tests.{ltb-true, lt-ltb, eqb-true, eq-eqb}
use lib.Dec.{ltb, eqb}
use lib.ListN.{length, get_or}
use Rattle.words.specs.Pick.{pick}
use Rattle.words.specs.HowMany.{HowMany}
use Rattle.words.specs.Inversions.{smaller_in, multiplicity, crossings, equal_pairs, inversions}
use Rattle.merging.specs.Sorting.{repeats}
use Rattle.merging.proofs.Totals.{total, total_same, multiplicity_is_total, smaller_is_total, crossings_are_total, equal_pairs_are_total}
use Rattle.positions.specs.Pairs.{HoldsAt, Inversion, Repetition, Crossing, Meeting}
use Rattle.positions.proofs.Parts.{none_is_zero, zero_is_none, decided_is_one_or_none, same_is_how_many, split_is_how_many}

-- ---- the positions that pass a test

abbrev Hit : (ℕ → Bool) → List ℕ → ℕ → Type 0
Hit t [] i = ⊥
Hit t (y ∷ ys) zero = t y ≡ true
Hit t (y ∷ ys) (suc i) = Hit t ys i

abbrev hits : (ℕ → Bool) → List ℕ → ℕ
hits t w = total (λ y. pick (t y) 1 0) w

hit_at : (t : ℕ → Bool) (w : List ℕ) (i : ℕ) → Hit t w i ↔ ((i < length w) × (t (get_or w i 0) ≡ true))
hit_at t w i = (to w i, λ h. from w i h.0 h.1)
  where
    to : (w : List ℕ) (i : ℕ) → Hit t w i → (i < length w) × (t (get_or w i 0) ≡ true)
    to [] i h = absurd h
    to (y ∷ ys) zero h = (zero-lt-suc (length ys), h)
    to (y ∷ ys) (suc i) h = let r = to ys i h in (suc-le-suc r.0, r.1)

    from : (w : List ℕ) (i : ℕ) → i < length w → t (get_or w i 0) ≡ true → Hit t w i
    from [] i l e = absurd (not-suc-le-zero l)
    from (y ∷ ys) zero l e = e
    from (y ∷ ys) (suc i) l e = from ys i (le_of_suc-le-suc l) e

hits_is_how_many : (t : ℕ → Bool) (w : List ℕ) → HowMany (Hit t w) (hits t w)
unfolding total
hits_is_how_many t [] = none_is_zero (Hit t []) (λ i h. h)
hits_is_how_many t (y ∷ ys) =
    split_is_how_many (λ (u : Unit {0}). t y ≡ true) (Hit t ys) (Hit t (y ∷ ys)) (λ u. 0) suc _ _
    (record {
      left = λ u h. h;
      right = λ i h. h;
      one_left = λ a b e. refl;
      one_right = λ a b e. suc_inj e;
      apart = λ a b h k e. omega arith;
      whole = whole;
    })
    (decided_is_one_or_none (t y)) (hits_is_how_many t ys)
  where
    whole : (i : ℕ) → Hit t (y ∷ ys) i → ((u : Unit {0}) × (t y ≡ true) × (i ≡ 0)) ⊎ ((j : ℕ) × Hit t ys j × (i ≡ suc j))
    whole zero h = inl (tt, h, refl)
    whole (suc i) h = inr (i, h, refl)

-- ---- a position of each of two words

abbrev Between : (ℕ → ℕ → Bool) → List ℕ → List ℕ → ℕ → ℕ → Type 0
Between t [] v i j = ⊥
Between t (x ∷ xs) v zero j = Hit (t x) v j
Between t (x ∷ xs) v (suc i) j = Between t xs v i j

between_at : (t : ℕ → ℕ → Bool) (u v : List ℕ) (i j : ℕ) → Between t u v i j ↔ ((i < length u) × (j < length v) × (t (get_or u i 0) (get_or v j 0) ≡ true))
between_at t u v i j = (to u i, λ h. from u i h.0 h.1 h.2)
  where
    to : (u : List ℕ) (i : ℕ) → Between t u v i j → (i < length u) × (j < length v) × (t (get_or u i 0) (get_or v j 0) ≡ true)
    to [] i h = absurd h
    to (x ∷ xs) zero h = let r = (hit_at (t x) v j).0 h in (zero-lt-suc (length xs), r.0, r.1)
    to (x ∷ xs) (suc i) h = let r = to xs i h in (suc-le-suc r.0, r.1, r.2)

    from : (u : List ℕ) (i : ℕ) → i < length u → j < length v → t (get_or u i 0) (get_or v j 0) ≡ true → Between t u v i j
    from [] i l m e = absurd (not-suc-le-zero l)
    from (x ∷ xs) zero l m e = (hit_at (t x) v j).1 (m, e)
    from (x ∷ xs) (suc i) l m e = from xs i (le_of_suc-le-suc l) m e

between_is_how_many : (t : ℕ → ℕ → Bool) (u v : List ℕ) → HowMany (λ (p : ℕ × ℕ). Between t u v p.0 p.1) (total (λ x. hits (t x) v) u)
unfolding total
between_is_how_many t [] v = none_is_zero (λ (p : ℕ × ℕ). Between t [] v p.0 p.1) (λ p h. h)
between_is_how_many t (x ∷ xs) v =
    split_is_how_many (Hit (t x) v) (λ (p : ℕ × ℕ). Between t xs v p.0 p.1) (λ (p : ℕ × ℕ). Between t (x ∷ xs) v p.0 p.1)
    (λ j. (0, j)) (λ p. (suc p.0, p.1)) _ _
    (record {
      left = λ j h. h;
      right = λ p h. h;
      one_left = λ a b e. ap (λ (p : ℕ × ℕ). p.1) e;
      one_right = λ a b e. one a b e;
      apart = λ a b h k e. omega (arith, ap (λ (p : ℕ × ℕ). p.0) e);
      whole = λ p h. whole p.0 p.1 h;
    })
    (hits_is_how_many (t x) v) (between_is_how_many t xs v)
  where
    one : (a b : ℕ × ℕ) → ◌≡◌ {A = ℕ × ℕ} (suc a.0, a.1) (suc b.0, b.1) → a ≡ b
    one a b e = ap₂ (λ (i j : ℕ). (i, j)) (suc_inj (ap (λ (p : ℕ × ℕ). p.0) e)) (ap (λ (p : ℕ × ℕ). p.1) e)

    whole : (i j : ℕ) → Between t (x ∷ xs) v i j → ((k : ℕ) × Hit (t x) v k × (◌≡◌ {A = ℕ × ℕ} (i, j) (0, k))) ⊎ ((p : ℕ × ℕ) × Between t xs v p.0 p.1 × (◌≡◌ {A = ℕ × ℕ} (i, j) (suc p.0, p.1)))
    whole zero j h = inl (j, h, refl)
    whole (suc i) j h = inr ((i, j), h, refl)

-- ---- two positions of one word

abbrev Within : (ℕ → ℕ → Bool) → List ℕ → ℕ → ℕ → Type 0
Within t [] i j = ⊥
Within t (x ∷ xs) i zero = ⊥
Within t (x ∷ xs) zero (suc j) = Hit (t x) xs j
Within t (x ∷ xs) (suc i) (suc j) = Within t xs i j

within_at : (t : ℕ → ℕ → Bool) (w : List ℕ) (i j : ℕ) → Within t w i j ↔ ((i < j) × (j < length w) × (t (get_or w i 0) (get_or w j 0) ≡ true))
within_at t w i j = (to w i j, λ h. from w i j h.0 h.1 h.2)
  where
    to : (w : List ℕ) (i j : ℕ) → Within t w i j → (i < j) × (j < length w) × (t (get_or w i 0) (get_or w j 0) ≡ true)
    to [] i j h = absurd h
    to (x ∷ xs) i zero h = absurd h
    to (x ∷ xs) zero (suc j) h = let r = (hit_at (t x) xs j).0 h in (zero-lt-suc j, suc-le-suc r.0, r.1)
    to (x ∷ xs) (suc i) (suc j) h = let r = to xs i j h in (suc-le-suc r.0, suc-le-suc r.1, r.2)

    from : (w : List ℕ) (i j : ℕ) → i < j → j < length w → t (get_or w i 0) (get_or w j 0) ≡ true → Within t w i j
    from [] i j l m e = absurd (not-suc-le-zero m)
    from (x ∷ xs) i zero l m e = absurd (not-suc-le-zero l)
    from (x ∷ xs) zero (suc j) l m e = (hit_at (t x) xs j).1 (le_of_suc-le-suc m, e)
    from (x ∷ xs) (suc i) (suc j) l m e = from xs i j (le_of_suc-le-suc l) (le_of_suc-le-suc m) e

-- how many pairs of a symbol and a later one pass the test
pairs : (ℕ → ℕ → Bool) → List ℕ → ℕ
pairs t [] = 0
pairs t (x ∷ xs) = hits (t x) xs + pairs t xs

within_is_how_many : (t : ℕ → ℕ → Bool) (w : List ℕ) → HowMany (λ (p : ℕ × ℕ). Within t w p.0 p.1) (pairs t w)
unfolding pairs
within_is_how_many t [] = none_is_zero (λ (p : ℕ × ℕ). Within t [] p.0 p.1) (λ p h. h)
within_is_how_many t (x ∷ xs) =
    split_is_how_many (Hit (t x) xs) (λ (p : ℕ × ℕ). Within t xs p.0 p.1) (λ (p : ℕ × ℕ). Within t (x ∷ xs) p.0 p.1)
    (λ j. (0, suc j)) (λ p. (suc p.0, suc p.1)) _ _
    (record {
      left = λ j h. h;
      right = λ p h. h;
      one_left = λ a b e. suc_inj (ap (λ (p : ℕ × ℕ). p.1) e);
      one_right = one;
      apart = λ a b h k e. omega (arith, ap (λ (p : ℕ × ℕ). p.0) e);
      whole = λ p h. whole p.0 p.1 h;
    })
    (hits_is_how_many (t x) xs) (within_is_how_many t xs)
  where
    one : (a b : ℕ × ℕ) → ◌≡◌ {A = ℕ × ℕ} (suc a.0, suc a.1) (suc b.0, suc b.1) → a ≡ b
    one a b e = ap₂ (λ (i j : ℕ). (i, j)) (suc_inj (ap (λ (p : ℕ × ℕ). p.0) e)) (suc_inj (ap (λ (p : ℕ × ℕ). p.1) e))

    whole : (i j : ℕ) → Within t (x ∷ xs) i j → ((k : ℕ) × Hit (t x) xs k × (◌≡◌ {A = ℕ × ℕ} (i, j) (0, suc k))) ⊎ ((p : ℕ × ℕ) × Within t xs p.0 p.1 × (◌≡◌ {A = ℕ × ℕ} (i, j) (suc p.0, suc p.1)))
    whole i zero h = absurd h
    whole zero (suc j) h = inl (j, h, refl)
    whole (suc i) (suc j) h = inr ((i, j), h, refl)

-- ---- the tests: the earlier symbol, or the left, is the larger; the two are equal

abbrev larger : ℕ → ℕ → Bool
larger x y = ltb y x

abbrev equal : ℕ → ℕ → Bool
equal x y = eqb y x

pub multiplicity_is_how_many_positions : (x : ℕ) (w : List ℕ) → HowMany (HoldsAt w x) (multiplicity x w)
multiplicity_is_how_many_positions x w =
    subst (HowMany (HoldsAt w x)) (sym (multiplicity_is_total x w))
    (same_is_how_many (Hit (equal x) w) (HoldsAt w x) _ (λ i. (
      λ h. let r = (hit_at (equal x) w i).0 h in record { within = r.0; equal = eqb-true (get_or w i 0) x r.1 },
      λ h. (hit_at (equal x) w i).1 (h.within, eq-eqb (get_or w i 0) x h.equal),
    )) (hits_is_how_many (equal x) w))

inversions_are_pairs : (w : List ℕ) → inversions w ≡ pairs larger w
unfolding inversions pairs
inversions_are_pairs [] = refl
inversions_are_pairs (x ∷ xs) = omega (arith, smaller_is_total x xs, inversions_are_pairs xs)

pub inversions_is_how_many_pairs : (w : List ℕ) → HowMany (Inversion w) (inversions w)
inversions_is_how_many_pairs w =
    subst (HowMany (Inversion w)) (sym (inversions_are_pairs w))
    (same_is_how_many (λ (p : ℕ × ℕ). Within larger w p.0 p.1) (Inversion w) _ (λ p. (
      λ h. let r = (within_at larger w p.0 p.1).0 h in record { rises = r.0; within = r.1; larger = ltb-true (get_or w p.1 0) (get_or w p.0 0) r.2 },
      λ h. (within_at larger w p.0 p.1).1 (h.rises, h.within, lt-ltb (get_or w p.1 0) (get_or w p.0 0) h.larger),
    )) (within_is_how_many larger w))

repeats_are_pairs : (w : List ℕ) → repeats w ≡ pairs equal w
unfolding repeats pairs
repeats_are_pairs [] = refl
repeats_are_pairs (x ∷ xs) = omega (arith, multiplicity_is_total x xs, repeats_are_pairs xs)

pub repeats_is_how_many_pairs : (w : List ℕ) → HowMany (Repetition w) (repeats w)
repeats_is_how_many_pairs w =
    subst (HowMany (Repetition w)) (sym (repeats_are_pairs w))
    (same_is_how_many (λ (p : ℕ × ℕ). Within equal w p.0 p.1) (Repetition w) _ (λ p. (
      λ h. let r = (within_at equal w p.0 p.1).0 h in record { rises = r.0; within = r.1; equal = sym (eqb-true (get_or w p.1 0) (get_or w p.0 0) r.2) },
      λ h. (within_at equal w p.0 p.1).1 (h.rises, h.within, eq-eqb (get_or w p.1 0) (get_or w p.0 0) (sym h.equal)),
    )) (within_is_how_many equal w))

pub no_repeats_is_distinct : (w : List ℕ) → (repeats w ≡ 0) ↔ ((p : ℕ × ℕ) → Repetition w p → ⊥)
no_repeats_is_distinct w = zero_is_none (Repetition w) (repeats w) (repeats_is_how_many_pairs w)

pub crossings_is_how_many_pairs : (u v : List ℕ) → HowMany (Crossing u v) (crossings u v)
crossings_is_how_many_pairs u v =
    subst (HowMany (Crossing u v)) (sym (crossings_are_total u v ∙ total_same (λ x. smaller_in x v) (λ x. hits (larger x) v) u (λ x. smaller_is_total x v)))
    (same_is_how_many (λ (p : ℕ × ℕ). Between larger u v p.0 p.1) (Crossing u v) _ (λ p. (
      λ h. let r = (between_at larger u v p.0 p.1).0 h in record { left = r.0; right = r.1; larger = ltb-true (get_or v p.1 0) (get_or u p.0 0) r.2 },
      λ h. (between_at larger u v p.0 p.1).1 (h.left, h.right, lt-ltb (get_or v p.1 0) (get_or u p.0 0) h.larger),
    )) (between_is_how_many larger u v))

pub equal_pairs_is_how_many_pairs : (u v : List ℕ) → HowMany (Meeting u v) (equal_pairs u v)
equal_pairs_is_how_many_pairs u v =
    subst (HowMany (Meeting u v)) (sym (equal_pairs_are_total u v ∙ total_same (λ x. multiplicity x v) (λ x. hits (equal x) v) u (λ x. multiplicity_is_total x v)))
    (same_is_how_many (λ (p : ℕ × ℕ). Between equal u v p.0 p.1) (Meeting u v) _ (λ p. (
      λ h. let r = (between_at equal u v p.0 p.1).0 h in record { left = r.0; right = r.1; equal = sym (eqb-true (get_or v p.1 0) (get_or u p.0 0) r.2) },
      λ h. (between_at equal u v p.0 p.1).1 (h.left, h.right, eq-eqb (get_or v p.1 0) (get_or u p.0 0) (sym h.equal)),
    )) (between_is_how_many equal u v))
