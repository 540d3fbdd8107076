-- The derivative by deletions. Assumes nothing.
--   deletions-of    the positions of s in a term give its coefficient to the entry at w as often as s stands there, if the term is w with s added, and nothing otherwise
--   derivative_is_by_deletions    the entry of the derivative is the sum over all deletions of s of all terms
use mathlib.Core.Path.{◌≡◌, sym, ap, subst, ◌∙◌}
use mathlib.Core.List.{List, [], ◌∷◌}
use Prim.Native.Nat.{ℕ, zero, suc, ◌+◌, ◌<◌}
use native.Mathlib.Nat.{zero-add}
use native.Mathlib.Decide.{ℕ_discrete}
use native.Mathlib.Omega.{arith}
use borrow.Author.Tests.{eq-eqb, ne_eqb}
use lib.Dec.{eqb}
use lib.ListN.{length, get_or}
use lib.IntN.{ℤ, pos, ◌+ℤ◌, ◌*ℤ◌, +ℤ_idl, *ℤ-zero}
use Rattle.words.specs.declared.Family.TheVariants.{Allowed}
use Rattle.words.specs.Pick.{pick}
use Rattle.words.specs.Word.{Word, count}
use Rattle.words.specs.Rank.{rank_of}
use Rattle.words.specs.Unrank.{unrank_of}
use Rattle.words.specs.Inversions.{multiplicity}
use Rattle.words.specs.Without.{without}
use Rattle.words.proofs.Rank.{rank_below_count, rank_tells_words_apart}
use Rattle.words.proofs.Unrank.{unrank_is_a_word, unrank_of_rank, rank_of_unrank}
use Rattle.words.proofs.Positions.{without_long}
use Rattle.merging.specs.Sorting.{insert}
use Rattle.derivatives.specs.Derivative.{derived_at, sum_to, from_deletion, by_deletions}
use Rattle.derivatives.proofs.Inserted.{insert-word, insert_inj, insert_without, without_increases}
use Rattle.derivatives.proofs.Whole.{times-suc, sum_none, sum_one, sum_same}

one_more : (m : ℕ) → suc m ≡ 1 + m
one_more m = omega arith

-- equal terms at the positions of s
sum_at : (s : ℕ) (c : ℤ) (u : List ℕ) → sum_to (λ p. pick (eqb (get_or u p 0) s) c (pos 0)) (length u) ≡ c *ℤ pos (multiplicity s u)
unfolding sum_to multiplicity
sum_at s c [] = sym (*ℤ-zero c)
sum_at s c (x ∷ xs) = go (ℕ_discrete x s) (sum_at s c xs)
  where
    go : Dec (x ≡ s) → sum_to (λ p. pick (eqb (get_or xs p 0) s) c (pos 0)) (length xs) ≡ c *ℤ pos (multiplicity s xs)
        → pick (eqb x s) c (pos 0) +ℤ sum_to (λ p. pick (eqb (get_or xs p 0) s) c (pos 0)) (length xs) ≡ c *ℤ pos (pick (eqb x s) 1 0 + multiplicity s xs)
    go (yes e) ih = rw (eq-eqb x s e) (ap (λ (z : ℤ). c +ℤ z) ih ∙ sym (times-suc c (multiplicity s xs)) ∙ ap (λ (j : ℕ). c *ℤ pos j) (one_more (multiplicity s xs)))
    go (no n) ih = rw (ne_eqb x s n) (+ℤ_idl _ ∙ ih ∙ ap (λ (j : ℕ). c *ℤ pos j) (sym (zero-add (multiplicity s xs))))

module _ (n k s : ℕ) (h : s < n) (w : List ℕ) (m : Word Allowed n k w) (c : ℤ) (u : List ℕ) (l : Word Allowed n (suc k) u) where
  -- deleting an s leaves w exactly if the term is w with s added
  left : (p : ℕ) → p < length u → get_or u p 0 ≡ s → insert s (without p u) ≡ u
  left p b e = subst (λ (x : ℕ). insert x (without p u) ≡ u) e (insert_without u p l.monotone b)

  pub deletions-of-same : u ≡ insert s w → sum_to (from_deletion s (rank_of Allowed w) c u) (suc k) ≡ c *ℤ pos (multiplicity s u)
  deletions-of-same q =
      sum_same (from_deletion s (rank_of Allowed w) c u) (λ p. pick (eqb (get_or u p 0) s) c (pos 0)) (suc k) (λ p b. at p (omega (arith, l.long)) (ℕ_discrete (get_or u p 0) s))
      ∙ ap (sum_to (λ p. pick (eqb (get_or u p 0) s) c (pos 0))) (sym l.long) ∙ sum_at s c u
    where
      at : (p : ℕ) → p < length u → Dec (get_or u p 0 ≡ s) → from_deletion s (rank_of Allowed w) c u p ≡ pick (eqb (get_or u p 0) s) c (pos 0)
      at p b (yes e) =
          let v : without p u ≡ w = insert_inj s (without p u) w (without_increases u p l.monotone) m.monotone (left p b e ∙ q) in
          rw (eq-eqb (get_or u p 0) s e, eq-eqb (rank_of Allowed (without p u)) (rank_of Allowed w) (ap (rank_of Allowed) v))
      at p b (no d) = rw (ne_eqb (get_or u p 0) s d)

  pub deletions-of-other : (u ≡ insert s w → ⊥) → sum_to (from_deletion s (rank_of Allowed w) c u) (suc k) ≡ pos 0
  deletions-of-other q = sum_none (from_deletion s (rank_of Allowed w) c u) (suc k) (λ p b. at p (omega (arith, l.long)) (ℕ_discrete (get_or u p 0) s))
    where
      at : (p : ℕ) → p < length u → Dec (get_or u p 0 ≡ s) → from_deletion s (rank_of Allowed w) c u p ≡ pos 0
      at p b (yes e) =
          rw (
            eq-eqb (get_or u p 0) s e,
            ne_eqb (rank_of Allowed (without p u)) (rank_of Allowed w)
                (λ r. q (sym (left p b e) ∙ ap (insert s) (rank_tells_words_apart Allowed (without p u) w (without_increases u p l.monotone) m.monotone (omega (arith, without_long p u b, l.long, m.long)) r))),
          )
      at p b (no d) = rw (ne_eqb (get_or u p 0) s d)

unranked : (n k : ℕ) (w : List ℕ) → Word Allowed n k w → unrank_of Allowed k (rank_of Allowed w) ≡ w
unranked n k w h = subst (λ (j : ℕ). unrank_of Allowed j (rank_of Allowed w) ≡ w) h.long (unrank_of_rank Allowed w h.monotone)

pub derivative_is_by_deletions : (n k s : ℕ) (t : List ℤ) → s < n → (w : List ℕ) → Word Allowed n k w → by_deletions n k s t (rank_of Allowed w) ≡ derived_at s t w
derivative_is_by_deletions n k s t h w m =
    sum_one each (count Allowed n (suc k)) q below (λ i b d. deletions-of-other n k s h w m (get_or t i (pos 0)) (unrank_of Allowed (suc k) i) (unrank_is_a_word Allowed n (suc k) i b)
    (λ e. d (sym (rank_of_unrank Allowed n (suc k) i b) ∙ ap (rank_of Allowed) e)))
    ∙ deletions-of-same n k s h w m (get_or t q (pos 0)) (unrank_of Allowed (suc k) q) (unrank_is_a_word Allowed n (suc k) q below) (unranked n (suc k) (insert s w) a)
    ∙ ap (λ (u : List ℕ). get_or t q (pos 0) *ℤ pos (multiplicity s u)) (unranked n (suc k) (insert s w) a)
  where
    a : Word Allowed n (suc k) (insert s w)
    a = insert-word n k s w h m

    q : ℕ
    q = rank_of Allowed (insert s w)

    below : q < count Allowed n (suc k)
    below = rank_below_count Allowed n (suc k) (insert s w) a

    each : ℕ → ℤ
    each i = sum_to (from_deletion s (rank_of Allowed w) (get_or t i (pos 0)) (unrank_of Allowed (suc k) i)) (suc k)
