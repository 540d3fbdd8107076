-- A walk over the words of one degree in rank order, and the words with a symbol added beside it. Assumes nothing.
--   Raised i x xs    how the next word comes about: so many zeros, then the first symbol raised by one, then what stood above
--   raised    so it does
--   next_below    where the first symbol is below s, the word with s added moves by one place
--   next-above    where it is not, the places in between are those of the terms without s
--   occurs_below, occurs-above    how often s stands in the next word
--   first_inserted, first_occurs    the first word with s added, and how often s stands in the first word
use mathlib.Core.Path.{◌≡◌, refl, sym, ap, subst, ◌∙◌}
use mathlib.Core.Bool.{Bool, true, false}
use mathlib.Core.List.{List, [], ◌∷◌}
use Prim.Native.Nat.{ℕ, zero, suc, ◌+◌, ◌-◌, ◌≤◌, ◌<◌}
use native.Mathlib.Nat.{suc-add, add-suc, le_refl}
use native.Mathlib.Omega.{arith}
use borrow.Author.Tests.{ltb-true, ltb-false, ne_eqb}
use lib.Dec.{ltb, eqb}
use Rattle.pascal.specs.Choose.{choose}
use Rattle.pascal.proofs.Choose.{pascal, choose_none, choose-few}
use Rattle.words.specs.declared.Family.TheVariants.{Allowed}
use Rattle.words.specs.Pick.{pick}
use Rattle.words.specs.Word.{Monotone}
use Rattle.words.specs.Rank.{rank_from, rank_of}
use Rattle.words.specs.Next.{reset, has_room, next_from, next, first}
use Rattle.words.specs.Inversions.{multiplicity}
use Rattle.words.proofs.Next.{reset-rank}
use Rattle.words.proofs.Bits.{From}
use Rattle.merging.specs.Sorting.{insert}
use Rattle.merging.proofs.Sorting.{from_first, none_below}
use Rattle.derivatives.proofs.Inserted.{insert-front, insert-past, insert-behind}

-- the first symbol weighs itself
one : (a : ℕ) → choose a 1 ≡ a
one zero = choose-few 0 1 (omega arith)
one (suc a) = omega (arith, pascal a 0, choose_none a, one a)

-- ---- zeros at the front

reset-front : (k : ℕ) (w : List ℕ) → reset Allowed k (0 ∷ w) ≡ 0 ∷ reset Allowed k w
unfolding reset
reset-front zero w = refl
reset-front (suc k) w = reset-front k (0 ∷ w)

insert-zero : (w : List ℕ) → insert 0 w ≡ 0 ∷ w
unfolding insert
insert-zero [] = refl
insert-zero (x ∷ xs) = insert-front 0 x xs (omega arith)

insert-reset : (s k : ℕ) (w : List ℕ) → insert s (reset Allowed k w) ≡ reset Allowed k (insert s w)
unfolding reset
insert-reset zero k w = insert-zero (reset Allowed k w) ∙ sym (ap (reset Allowed k) (insert-zero w) ∙ reset-front k w)
insert-reset (suc s) zero w = refl
insert-reset (suc s) (suc k) w =
    ap (insert (suc s)) (reset-front k w) ∙ insert-past (suc s) 0 (reset Allowed k w) (omega arith) ∙ ap (λ (l : List ℕ). 0 ∷ l) (insert-reset (suc s) k w)
    ∙ sym (reset-front k (insert (suc s) w))

zeros-reset : (k : ℕ) (w : List ℕ) → multiplicity 0 (reset Allowed k w) ≡ k + multiplicity 0 w
unfolding reset multiplicity
zeros-reset zero w = omega arith
zeros-reset (suc k) w = omega (arith, zeros-reset k (0 ∷ w))

others_reset : (x k : ℕ) (w : List ℕ) → multiplicity (suc x) (reset Allowed k w) ≡ multiplicity (suc x) w
unfolding reset multiplicity
others_reset x zero w = refl
others_reset x (suc k) w =
    let e : multiplicity (suc x) (0 ∷ w) ≡ multiplicity (suc x) w = rw (ne_eqb 0 (suc x) (λ q. omega arith)) (omega arith) in
    others_reset x k (0 ∷ w) ∙ e

many-reset : (x k : ℕ) (w : List ℕ) → multiplicity x (reset Allowed k w) ≡ pick (eqb x 0) k 0 + multiplicity x w
many-reset zero k w = zeros-reset k w
many-reset (suc x) k w = rw (ne_eqb (suc x) 0 (λ q. omega arith)) (omega (arith, others_reset x k w))

-- ---- the next word

-- of the word x ∷ xs, whose first symbol stands at position i above i symbols that are x too
pub record Raised (i x : ℕ) (xs : List ℕ) : Type 0 where
  pub zeros : ℕ
  pub rest : List ℕ
  pub is : next_from Allowed i (x ∷ xs) ≡ reset Allowed zeros (suc x ∷ rest)
  pub above : Monotone Allowed (suc x ∷ rest)
  pub weighs : rank_from Allowed (suc zeros) (suc x ∷ rest) ≡ choose (x + suc i) (suc i) + rank_from Allowed (suc i) (x ∷ xs)

pub raised : (i x : ℕ) (xs : List ℕ) → Monotone Allowed (x ∷ xs) → Raised i x xs
unfolding next_from rank_from
raised i x [] m =
    record { zeros = i; rest = []; is = refl; above = tt; weighs = omega (arith, ap (λ (a : ℕ). choose a (suc (suc i))) (suc-add x (suc i)), pascal (x + suc i) (suc i)) }
raised i x (y ∷ ys) m = go (has_room Allowed x y) refl (raised (suc i) y ys m.1)
  where
    go : (t : Bool) → has_room Allowed x y ≡ t → Raised (suc i) y ys → Raised i x (y ∷ ys)
    go true e r =
        record {
          zeros = i;
          rest = y ∷ ys;
          is = rw e refl;
          above = (ltb-true x y e, m.1);
          weighs = omega (arith, ap (λ (a : ℕ). choose a (suc (suc i))) (suc-add x (suc i)), pascal (x + suc i) (suc i));
        }
    go false e r =
        let q : y ≡ x = omega (arith, ltb-false x y e, m.0) in
        record {
          zeros = r.zeros;
          rest = r.rest;
          is = rw e (r.is ∙ ap (λ (a : ℕ). reset Allowed r.zeros (suc a ∷ r.rest)) q);
          above = subst (λ (a : ℕ). Monotone Allowed (suc a ∷ r.rest)) q r.above;
          weighs =
              ap (λ (a : ℕ). rank_from Allowed (suc r.zeros) (suc a ∷ r.rest)) (sym q) ∙ r.weighs
              ∙ omega (arith, ap (λ (a : ℕ). choose (a + suc (suc i)) (suc (suc i))) q, ap (λ (a : ℕ). choose a (suc (suc i))) (add-suc x (suc i)), pascal (x + suc i) (suc i));
        }

-- ---- the first symbol is below s: the word with s added moves by one place too

-- a symbol below s, raised by one above i zeros
lifted : (s i x : ℕ) (xs : List ℕ) → x < s → Monotone Allowed (suc x ∷ xs)
    → rank_of Allowed (insert s (reset Allowed i (suc x ∷ xs))) ≡ choose (x + i) i + rank_from Allowed i (insert s (x ∷ xs))
unfolding rank_from
lifted s i x xs h m =
    ap (rank_of Allowed) (insert-reset s i (suc x ∷ xs)) ∙ reset-rank Allowed i (insert s (suc x ∷ xs))
    ∙ ap (rank_from Allowed i) (insert-behind s (suc x) xs h m)
    ∙ omega (arith, ap (rank_from Allowed i) (insert-past s x xs h), ap (λ (a : ℕ). choose a (suc i)) (suc-add x i), pascal (x + i) i)

below_from : (s i x : ℕ) (xs : List ℕ) → x < s → Monotone Allowed (x ∷ xs)
    → rank_of Allowed (insert s (next_from Allowed i (x ∷ xs))) ≡ choose (x + i) i + rank_from Allowed i (insert s (x ∷ xs))
unfolding next_from rank_from
below_from s i x [] h m = lifted s i x [] h tt
below_from s i x (y ∷ ys) h m = go (has_room Allowed x y) refl (below_from s (suc i) y ys)
  where
    go : (t : Bool) → has_room Allowed x y ≡ t
        → (y < s → Monotone Allowed (y ∷ ys) → rank_of Allowed (insert s (next_from Allowed (suc i) (y ∷ ys))) ≡ choose (y + suc i) (suc i) + rank_from Allowed (suc i) (insert s (y ∷ ys)))
        → rank_of Allowed (insert s (pick t (reset Allowed i (suc x ∷ y ∷ ys)) (next_from Allowed (suc i) (y ∷ ys)))) ≡ choose (x + i) i + rank_from Allowed i (insert s (x ∷ y ∷ ys))
    go true e ih = lifted s i x (y ∷ ys) h (ltb-true x y e, m.1)
    go false e ih =
        let q : y ≡ x = omega (arith, ltb-false x y e, m.0) in
        ih (omega arith) m.1
        ∙ omega (
          arith,
          ap (rank_from Allowed i) (insert-past s x (y ∷ ys) h),
          ap (λ (a : ℕ). choose (a + suc i) (suc i)) q,
          ap (λ (a : ℕ). choose a (suc i)) (add-suc x i),
          pascal (x + i) i,
        )

pub next_below : (s x : ℕ) (xs : List ℕ) → x < s → Monotone Allowed (x ∷ xs) → rank_of Allowed (insert s (next Allowed (x ∷ xs))) ≡ suc (rank_of Allowed (insert s (x ∷ xs)))
next_below s x xs h m = omega (arith, below_from s 0 x xs h m, choose_none (x + 0))

occurs_below_from : (s i x : ℕ) (xs : List ℕ) → x < s → Monotone Allowed (x ∷ xs) → multiplicity s (next_from Allowed i (x ∷ xs)) ≡ pick (eqb (suc x) s) 1 0 + multiplicity s (x ∷ xs)
unfolding next_from multiplicity
occurs_below_from zero i x xs h m = absurd (omega arith)
occurs_below_from (suc s) i x [] h m = others_reset s i (suc x ∷ []) ∙ rw (ne_eqb x (suc s) (λ e. omega arith)) (omega arith)
occurs_below_from (suc s) i x (y ∷ ys) h m = go (has_room Allowed x y) refl (occurs_below_from (suc s) (suc i) y ys)
  where
    go : (t : Bool) → has_room Allowed x y ≡ t
        → (y < suc s → Monotone Allowed (y ∷ ys) → multiplicity (suc s) (next_from Allowed (suc i) (y ∷ ys)) ≡ pick (eqb (suc y) (suc s)) 1 0 + multiplicity (suc s) (y ∷ ys))
        → multiplicity (suc s) (pick t (reset Allowed i (suc x ∷ y ∷ ys)) (next_from Allowed (suc i) (y ∷ ys))) ≡ pick (eqb (suc x) (suc s)) 1 0 + multiplicity (suc s) (x ∷ y ∷ ys)
    go true e ih = others_reset s i (suc x ∷ y ∷ ys) ∙ rw (ne_eqb x (suc s) (λ q. omega arith)) (omega arith)
    go false e ih =
        let q : y ≡ x = omega (arith, ltb-false x y e, m.0) in
        ih (omega arith) m.1 ∙ rw (ne_eqb x (suc s) (λ q. omega arith)) (omega (arith, ap {B = ℕ} (λ (a : ℕ). pick (eqb (suc a) (suc s)) 1 0) q))

pub occurs_below : (s x : ℕ) (xs : List ℕ) → x < s → Monotone Allowed (x ∷ xs) → multiplicity s (next Allowed (x ∷ xs)) ≡ pick (eqb (suc x) s) 1 0 + multiplicity s (x ∷ xs)
occurs_below s x xs h m = occurs_below_from s 0 x xs h m

-- ---- it is not: the terms without s in between are left out

module _ (s x : ℕ) (xs : List ℕ) (h : s ≤ x) (m : Monotone Allowed (x ∷ xs)) where
  comes : next Allowed (x ∷ xs) ≡ reset Allowed (raised 0 x xs m).zeros (suc x ∷ (raised 0 x xs m).rest)
  comes = (raised 0 x xs m).is

  pub next-above : rank_of Allowed (insert s (next Allowed (x ∷ xs)))
      ≡ rank_of Allowed (insert s (x ∷ xs)) + suc (choose (s + (raised 0 x xs m).zeros) (suc (raised 0 x xs m).zeros) + (x - s))
  unfolding rank_from
  next-above =
      let z : ℕ = (raised 0 x xs m).zeros in
      ap (λ (l : List ℕ). rank_of Allowed (insert s l)) comes
      ∙ ap (rank_of Allowed) (insert-reset s z (suc x ∷ (raised 0 x xs m).rest) ∙ ap (reset Allowed z) (insert-front s (suc x) (raised 0 x xs m).rest (omega arith)))
      ∙ reset-rank Allowed z (s ∷ suc x ∷ (raised 0 x xs m).rest)
      ∙ omega (arith, (raised 0 x xs m).weighs, ap (rank_of Allowed) (insert-front s x xs h), one (x + 1), one (s + 0))

  pub occurs-above : multiplicity s (next Allowed (x ∷ xs)) ≡ pick (eqb s 0) (raised 0 x xs m).zeros 0
  occurs-above =
      ap (multiplicity s) comes ∙ many-reset s (raised 0 x xs m).zeros (suc x ∷ (raised 0 x xs m).rest)
      ∙ omega (arith, none_below (suc x) s (suc x ∷ (raised 0 x xs m).rest) (omega arith) (le_refl (suc x), from_first (suc x) (raised 0 x xs m).rest (raised 0 x xs m).above))

-- ---- the first word

pub first_inserted : (s k : ℕ) → rank_of Allowed (insert s (first Allowed k)) ≡ choose (s + k) (suc k)
unfolding insert rank_from
first_inserted s k = ap (rank_of Allowed) (insert-reset s k []) ∙ reset-rank Allowed k (s ∷ []) ∙ omega arith

pub first_occurs : (s k : ℕ) → multiplicity s (first Allowed k) ≡ pick (eqb s 0) k 0
unfolding multiplicity
first_occurs s k = many-reset s k [] ∙ omega arith
