-- Deriving is linear. Assumes nothing.
--   sums_long, sums_at    a sum of tables by its length and its entries
--   derivative_of_sums    the derivative of the sum of two tables is the sum of their derivatives
use mathlib.Core.Path.{◌≡◌, refl, sym, ap, ◌∙◌}
use mathlib.Core.List.{List, [], ◌∷◌, ◌++◌}
use Prim.Native.Nat.{ℕ, zero, suc, ◌<◌}
use native.Mathlib.Nat.{not-suc-le-zero, le_of_suc-le-suc, suc_inj}
use native.Mathlib.Omega.{arith}
use lib.ListN.{length, get_or}
use lib.IntN.{ℤ, pos, ◌+ℤ◌, ◌*ℤ◌}
use Rattle.words.specs.declared.Family.TheVariants.{Allowed}
use Rattle.words.specs.Word.{Word, count}
use Rattle.words.specs.Rank.{rank_of}
use Rattle.words.specs.Unrank.{unrank_of}
use Rattle.words.specs.Inversions.{multiplicity}
use Rattle.words.proofs.Rank.{rank_below_count}
use Rattle.words.proofs.Unrank.{unrank_is_a_word}
use Rattle.merging.specs.Sorting.{insert}
use Rattle.derivatives.specs.Derivative.{coefficient, derived_at, entries_of, derivative, sums}
use Rattle.derivatives.proofs.Inserted.{insert-word}
use Rattle.derivatives.proofs.Whole.{times-sum, entries_same, entries_long}

pub sums_at : (a b : List ℤ) (i : ℕ) → i < length a → length a ≡ length b → get_or (sums a b) i (pos 0) ≡ get_or a i (pos 0) +ℤ get_or b i (pos 0)
unfolding sums
sums_at [] b i h e = absurd (not-suc-le-zero h)
sums_at (x ∷ xs) [] i h e = absurd (omega arith)
sums_at (x ∷ xs) (y ∷ ys) zero h e = refl
sums_at (x ∷ xs) (y ∷ ys) (suc i) h e = sums_at xs ys i (le_of_suc-le-suc h) (suc_inj e)

-- one more entry at the end of each
sums_more : (a b : List ℤ) (x y : ℤ) → length a ≡ length b → sums (a ++ x ∷ []) (b ++ y ∷ []) ≡ sums a b ++ (x +ℤ y) ∷ []
unfolding sums
sums_more [] [] x y e = refl
sums_more [] (v ∷ vs) x y e = absurd (omega arith)
sums_more (u ∷ us) [] x y e = absurd (omega arith)
sums_more (u ∷ us) (v ∷ vs) x y e = ap (λ (l : List ℤ). (u +ℤ v) ∷ l) (sums_more us vs x y (suc_inj e))

entries-sum : (f g : ℕ → ℤ) (m : ℕ) → entries_of (λ r. f r +ℤ g r) m ≡ sums (entries_of f m) (entries_of g m)
unfolding entries_of sums
entries-sum f g zero = refl
entries-sum f g (suc m) =
    ap (λ (l : List ℤ). l ++ (f m +ℤ g m) ∷ []) (entries-sum f g m)
    ∙ sym (sums_more (entries_of f m) (entries_of g m) (f m) (g m) (entries_long f m ∙ sym (entries_long g m)))

pub derivative_of_sums : (n k s : ℕ) (a b : List ℤ) → s < n → length a ≡ count Allowed n (suc k) → length b ≡ count Allowed n (suc k)
    → derivative n k s (sums a b) ≡ sums (derivative n k s a) (derivative n k s b)
derivative_of_sums n k s a b h la lb =
    entries_same (λ r. derived_at s (sums a b) (unrank_of Allowed k r)) (λ r. derived_at s a (unrank_of Allowed k r) +ℤ derived_at s b (unrank_of Allowed k r)) (count Allowed n k)
    (λ r l. at (unrank_of Allowed k r) (unrank_is_a_word Allowed n k r l))
    ∙ entries-sum (λ r. derived_at s a (unrank_of Allowed k r)) (λ r. derived_at s b (unrank_of Allowed k r)) (count Allowed n k)
  where
    at : (w : List ℕ) → Word Allowed n k w → derived_at s (sums a b) w ≡ derived_at s a w +ℤ derived_at s b w
    at w l =
        let q : rank_of Allowed (insert s w) < length a = omega (arith, la, rank_below_count Allowed n (suc k) (insert s w) (insert-word n k s w h l)) in
        ap (λ (z : ℤ). z *ℤ pos (multiplicity s (insert s w))) (sums_at a b (rank_of Allowed (insert s w)) q (la ∙ sym lb))
        ∙ times-sum (coefficient a (insert s w)) (coefficient b (insert s w)) (multiplicity s (insert s w))
