-- Mixed derivatives are the same in either order. Assumes nothing.
--   coefficient_of_derivative    the entry of the derivative at a word over n is `derived_at`
--   derivatives_commute    by s and then t is by t and then s
use mathlib.Core.Path.{◌≡◌, sym, ap, ap₂, subst, ◌∙◌}
use mathlib.Core.List.{List}
use Prim.Native.Nat.{ℕ, suc, ◌*◌, ◌<◌}
use native.Mathlib.Nat.{mul_comm}
use native.Mathlib.Decide.{ℕ_discrete}
use lib.IntN.{ℤ, pos, ◌*ℤ◌}
use Rattle.words.specs.declared.Family.TheVariants.{Allowed}
use Rattle.words.specs.Word.{Word, count}
use Rattle.words.specs.Rank.{rank_of}
use Rattle.words.specs.Unrank.{unrank_of}
use Rattle.words.specs.Inversions.{multiplicity}
use Rattle.words.proofs.Rank.{rank_below_count}
use Rattle.words.proofs.Unrank.{unrank_is_a_word, unrank_of_rank}
use Rattle.merging.specs.Sorting.{insert}
use Rattle.derivatives.specs.Derivative.{coefficient, derived_at, derivative}
use Rattle.derivatives.proofs.Inserted.{insert-word, insert_comm, insert-many, insert-kept}
use Rattle.derivatives.proofs.Whole.{times-times, entries_at, entries_same}

pub coefficient_of_derivative : (n k s : ℕ) (t : List ℤ) (w : List ℕ) → Word Allowed n k w → coefficient (derivative n k s t) w ≡ derived_at s t w
coefficient_of_derivative n k s t w h =
    entries_at (λ r. derived_at s t (unrank_of Allowed k r)) (count Allowed n k) (rank_of Allowed w) (pos 0) (rank_below_count Allowed n k w h)
    ∙ ap (derived_at s t) (subst (λ (j : ℕ). unrank_of Allowed j (rank_of Allowed w) ≡ w) h.long (unrank_of_rank Allowed w h.monotone))

-- how often s and t stand in w with both added, the second counted before the first is there
both : (s t : ℕ) (w : List ℕ)
    → multiplicity s (insert s (insert t w)) * multiplicity t (insert t w) ≡ multiplicity t (insert t (insert s w)) * multiplicity s (insert s w)
both s t w = go (ℕ_discrete s t)
  where
    go : Dec (s ≡ t) → multiplicity s (insert s (insert t w)) * multiplicity t (insert t w) ≡ multiplicity t (insert t (insert s w)) * multiplicity s (insert s w)
    go (yes e) = rw e
    go (no n) =
        rw (insert-many s (insert t w), insert-many t (insert s w), insert-kept s t w (λ e. n (sym e)), insert-kept t s w n, insert-many s w, insert-many t w)
        (mul_comm (suc (multiplicity s w)) (suc (multiplicity t w)))

twice : (n k s t : ℕ) (c : List ℤ) → t < n → (w : List ℕ) → Word Allowed n k w
    → derived_at t (derivative n (suc k) s c) w ≡ coefficient c (insert s (insert t w)) *ℤ pos (multiplicity s (insert s (insert t w)) * multiplicity t (insert t w))
twice n k s t c l w h =
    ap (λ (z : ℤ). z *ℤ pos (multiplicity t (insert t w))) (coefficient_of_derivative n (suc k) s c (insert t w) (insert-word n k t w l h))
    ∙ times-times (coefficient c (insert s (insert t w))) (multiplicity s (insert s (insert t w))) (multiplicity t (insert t w))

pub derivatives_commute : (n k s t : ℕ) (c : List ℤ) → s < n → t < n → derivative n k t (derivative n (suc k) s c) ≡ derivative n k s (derivative n (suc k) t c)
derivatives_commute n k s t c h l =
    entries_same (λ r. derived_at t (derivative n (suc k) s c) (unrank_of Allowed k r)) (λ r. derived_at s (derivative n (suc k) t c) (unrank_of Allowed k r)) (count Allowed n k)
    (λ r b. at (unrank_of Allowed k r) (unrank_is_a_word Allowed n k r b))
  where
    at : (w : List ℕ) → Word Allowed n k w → derived_at t (derivative n (suc k) s c) w ≡ derived_at s (derivative n (suc k) t c) w
    at w a =
        twice n k s t c l w a
        ∙ ap₂ (λ (u : List ℕ) (m : ℕ). coefficient c u *ℤ pos m) (insert_comm s t w a.monotone) (both s t w)
        ∙ sym (twice n k t s c h w a)
