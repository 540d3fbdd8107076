-- A symbol added to a word. Assumes nothing.
--   insert-front, insert-past    it stands in front of a symbol that is not smaller, and past a smaller one
--   insert_long, insert_increases, insert-word    the word is one longer, increases, and is a word over n
--   insert_comm    two symbols may be added in either order
--   insert-many    s added stands there once more
--   insert-kept    and another symbol as often as before
--   occurs_at_most    a symbol occurs at most as often as the word is long
--   insert_inj    two words that are the same with s added are the same
--   insert_first, insert-behind    the first symbol added to the rest, and what is added behind a first symbol
--   insert_without    a symbol deleted and added again gives the word
--   without_increases    a word without a position is a word
use mathlib.Core.Path.{◌≡◌, refl, sym, ap, ap₂, subst, ◌∙◌}
use mathlib.Core.List.{List, [], ◌∷◌}
use Prim.Native.Nat.{ℕ, zero, suc, ◌+◌, ◌≤◌, ◌<◌}
use native.Mathlib.Nat.{not-suc-le-zero, le_of_suc-le-suc, le_trans}
use native.Mathlib.Decide.{ℕ_discrete}
use native.Mathlib.Omega.{arith}
use borrow.Author.Tests.{le-leb, lt-leb, eq-eqb, ne_eqb}
use lib.Dec.{leb, eqb}
use lib.ListN.{length, get_or}
use Rattle.words.specs.declared.Family.TheVariants.{Allowed}
use Rattle.words.specs.Pick.{pick}
use Rattle.words.specs.Word.{Monotone, Below, Word}
use Rattle.words.specs.Inversions.{multiplicity}
use Rattle.words.specs.Without.{without}
use Rattle.merging.specs.Sorting.{insert, sorted}
use Rattle.merging.proofs.Totals.{by_order, total, total-insert, length_is_total, multiplicity_is_total}
use Rattle.merging.proofs.Sorting.{after_first, sorted_increases, sorted_of_increasing, increasing_is_unique}

pub insert-front : (s x : ℕ) (xs : List ℕ) → s ≤ x → insert s (x ∷ xs) ≡ s ∷ x ∷ xs
unfolding insert
insert-front s x xs h = rw (le-leb s x h)

pub insert-past : (s x : ℕ) (xs : List ℕ) → x < s → insert s (x ∷ xs) ≡ x ∷ insert s xs
unfolding insert
insert-past s x xs h = rw (lt-leb s x h)

-- ---- the longer word

pub insert_long : (s : ℕ) (w : List ℕ) → length (insert s w) ≡ suc (length w)
insert_long s w = omega (arith, length_is_total (insert s w), total-insert (λ y. 1) s w, length_is_total w)

insert_below : (n s : ℕ) (w : List ℕ) → s < n → Below n w → Below n (insert s w)
unfolding insert
insert_below n s [] h b = (h, tt)
insert_below n s (x ∷ xs) h b = by_order (Below n) s x (λ l. (h, b)) (λ l. (b.0, insert_below n s xs h b.1))

-- a symbol added to an increasing list is sorted with it
insert_sorts : (s : ℕ) (w : List ℕ) → Monotone Allowed w → insert s w ≡ sorted (s ∷ w)
unfolding sorted
insert_sorts s w m = ap (insert s) (sym (sorted_of_increasing w m))

pub insert_increases : (s : ℕ) (w : List ℕ) → Monotone Allowed w → Monotone Allowed (insert s w)
insert_increases s w m = subst (Monotone Allowed) (sym (insert_sorts s w m)) (sorted_increases (s ∷ w))

pub insert-word : (n k s : ℕ) (w : List ℕ) → s < n → Word Allowed n k w → Word Allowed n (suc k) (insert s w)
insert-word n k s w h l =
    record { long = insert_long s w ∙ ap suc l.long; monotone = insert_increases s w l.monotone; below = insert_below n s w h l.below }

-- ---- how often a symbol stands there

many : (x s : ℕ) (w : List ℕ) → multiplicity x (insert s w) ≡ pick (eqb s x) 1 0 + multiplicity x w
many x s w = omega (arith, multiplicity_is_total x (insert s w), total-insert (λ y. pick (eqb y x) 1 0) s w, multiplicity_is_total x w)

pub insert-many : (s : ℕ) (w : List ℕ) → multiplicity s (insert s w) ≡ suc (multiplicity s w)
insert-many s w = many s s w ∙ rw (eq-eqb s s refl) (omega arith)

pub insert-kept : (x s : ℕ) (w : List ℕ) → (s ≡ x → ⊥) → multiplicity x (insert s w) ≡ multiplicity x w
insert-kept x s w n = many x s w ∙ rw (ne_eqb s x n) (omega arith)

pub occurs_at_most : (x : ℕ) (w : List ℕ) → multiplicity x w ≤ length w
unfolding multiplicity
occurs_at_most x [] = omega arith
occurs_at_most x (y ∷ ys) = go (ℕ_discrete y x) (occurs_at_most x ys)
  where
    go : Dec (y ≡ x) → multiplicity x ys ≤ length ys → pick (eqb y x) 1 0 + multiplicity x ys ≤ suc (length ys)
    go (yes e) ih = rw (eq-eqb y x e) (omega arith)
    go (no n) ih = rw (ne_eqb y x n) (omega arith)

-- ---- two symbols

pub insert_comm : (s t : ℕ) (w : List ℕ) → Monotone Allowed w → insert s (insert t w) ≡ insert t (insert s w)
insert_comm s t w m =
    increasing_is_unique (insert s (insert t w)) (insert t (insert s w)) (insert_increases s (insert t w) (insert_increases t w m)) (insert_increases t (insert s w) (insert_increases s w m))
    (λ x. omega (arith, many x s (insert t w), many x t w, many x t (insert s w), many x s w))

pub insert_inj : (s : ℕ) (u v : List ℕ) → Monotone Allowed u → Monotone Allowed v → insert s u ≡ insert s v → u ≡ v
insert_inj s u v m l e = increasing_is_unique u v m l (λ x. omega (arith, many x s u, many x s v, ap (multiplicity x) e))

-- ---- deleted and added

-- the first symbol of a word, added to the rest
pub insert_first : (x : ℕ) (xs : List ℕ) → Monotone Allowed (x ∷ xs) → insert x xs ≡ x ∷ xs
unfolding insert
insert_first x [] m = refl
insert_first x (y ∷ ys) m = insert-front x y ys m.0

first_least : (x : ℕ) (xs : List ℕ) (p : ℕ) → Monotone Allowed (x ∷ xs) → p < length xs → x ≤ get_or xs p 0
first_least x [] p m h = absurd (not-suc-le-zero h)
first_least x (y ∷ ys) zero m h = m.0
first_least x (y ∷ ys) (suc p) m h = le_trans m.0 (first_least y ys p m.1 (le_of_suc-le-suc h))

-- in front of a symbol of the word, or past it, what is added among those behind it stands behind it
pub insert-behind : (s x : ℕ) (xs : List ℕ) → x ≤ s → Monotone Allowed (x ∷ xs) → insert s (x ∷ xs) ≡ x ∷ insert s xs
insert-behind s x xs h m = go (ℕ_discrete s x)
  where
    go : Dec (s ≡ x) → insert s (x ∷ xs) ≡ x ∷ insert s xs
    go (yes e) = insert-front s x xs (omega arith) ∙ ap₂ (λ (a b : ℕ). a ∷ b ∷ xs) e refl ∙ ap (λ (l : List ℕ). x ∷ l) (sym (insert_first x xs m) ∙ ap (λ (a : ℕ). insert a xs) (sym e))
    go (no n) = insert-past s x xs (omega arith)

-- what stands above y stands above each smaller x
before : (x y : ℕ) (ys : List ℕ) → Monotone Allowed (x ∷ y ∷ ys) → Monotone Allowed (x ∷ ys)
before x y [] m = tt
before x y (z ∷ zs) m = (le_trans m.0 m.1.0, m.1.1)

nothing : (p : ℕ) → without p [] ≡ []
nothing zero = refl
nothing (suc p) = refl

pub without_increases : (u : List ℕ) (p : ℕ) → Monotone Allowed u → Monotone Allowed (without p u)
without_increases [] p m = subst (Monotone Allowed) (sym (nothing p)) tt
without_increases (x ∷ xs) zero m = after_first x xs m
without_increases (x ∷ []) (suc p) m = subst (λ (l : List ℕ). Monotone Allowed (x ∷ l)) (sym (nothing p)) tt
without_increases (x ∷ y ∷ ys) (suc zero) m = before x y ys m
without_increases (x ∷ y ∷ ys) (suc (suc p)) m = (m.0, without_increases (y ∷ ys) (suc p) m.1)

pub insert_without : (u : List ℕ) (p : ℕ) → Monotone Allowed u → p < length u → insert (get_or u p 0) (without p u) ≡ u
insert_without [] p m h = absurd (not-suc-le-zero h)
insert_without (x ∷ xs) zero m h = insert_first x xs m
insert_without (x ∷ xs) (suc p) m h =
    insert-behind (get_or xs p 0) x (without p xs) (first_least x xs p m (le_of_suc-le-suc h)) (without_increases (x ∷ xs) (suc p) m)
    ∙ ap (λ (l : List ℕ). x ∷ l) (insert_without xs p (after_first x xs m) (le_of_suc-le-suc h))
