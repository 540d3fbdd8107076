-- The word of rank j among the words of k symbols below 2: k - j pressures, then j temperatures. Assumes nothing.
--   times n s    the symbol s n times
--   term_of k j    0 k - j times, then 1 j times
--   term_is_a_word, term_has_its_rank    it is an Allowed word of k symbols below 2, and its rank is j
--   unrank_is_term    so unranking gives it
use mathlib.Core.List.{List, [], ◌∷◌, ◌++◌}
use mathlib.Core.Path.{◌≡◌, refl, ◌∙◌, ap}
use Prim.Native.Nat.{ℕ, zero, suc, ◌+◌, ◌-◌, ◌≤◌}
use native.Mathlib.Omega.{arith}
use lib.ListN.{length, length-append}
use Rattle.words.specs.declared.Family.TheVariants.{Allowed}
use Rattle.words.specs.Word.{Word, Monotone, Below}
use Rattle.words.specs.Rank.{rank_from, rank_of}
use Rattle.words.specs.Unrank.{unrank_of}
use Rattle.words.proofs.Unrank.{unrank_of_rank}
use Rattle.pascal.proofs.Choose.{choose-few, choose_all}

abbrev pub times : ℕ → ℕ → List ℕ
times zero s = []
times (suc n) s = s ∷ times n s

abbrev pub term_of : ℕ → ℕ → List ℕ
term_of k j = times (k - j) 0 ++ times j 1

-- a 1 weighs 1 and a 0 nothing
rank-ones : (i j : ℕ) → rank_from Allowed i (times j 1) ≡ j
unfolding rank_from
rank-ones i zero = refl
rank-ones i (suc j) = let e : 1 + i ≡ suc i = omega arith in rw (e, choose_all (suc i), rank-ones (suc i) j) (omega arith)

rank-term : (i z j : ℕ) → rank_from Allowed i (times z 0 ++ times j 1) ≡ j
unfolding rank_from
rank-term i zero j = rank-ones i j
rank-term i (suc z) j = rw (choose-few (0 + i) (suc i) (omega arith), rank-term (suc i) z j) (omega arith)

length-times : (n s : ℕ) → length (times n s) ≡ n
length-times zero s = refl
length-times (suc n) s = ap suc (length-times n s)

monotone-ones : (j : ℕ) → Monotone Allowed (times j 1)
monotone-ones zero = tt
monotone-ones (suc zero) = tt
monotone-ones (suc (suc j)) = (omega arith, monotone-ones (suc j))

monotone-term : (z j : ℕ) → Monotone Allowed (times z 0 ++ times j 1)
monotone-term zero j = monotone-ones j
monotone-term (suc zero) zero = tt
monotone-term (suc zero) (suc j) = (omega arith, monotone-ones (suc j))
monotone-term (suc (suc z)) j = (omega arith, monotone-term (suc z) j)

below_ones : (j : ℕ) → Below 2 (times j 1)
below_ones zero = tt
below_ones (suc j) = (omega arith, below_ones j)

below_term : (z j : ℕ) → Below 2 (times z 0 ++ times j 1)
below_term zero j = below_ones j
below_term (suc z) j = (omega arith, below_term z j)

pub term_is_a_word : (k j : ℕ) → j ≤ k → Word Allowed 2 k (term_of k j)
term_is_a_word k j h = record {
  long = length-append (times (k - j) 0) (times j 1) ∙ rw (length-times (k - j) 0, length-times j 1) (omega arith);
  monotone = monotone-term (k - j) j;
  below = below_term (k - j) j;
}

pub term_has_its_rank : (k j : ℕ) → rank_of Allowed (term_of k j) ≡ j
term_has_its_rank k j = rank-term 0 (k - j) j

pub unrank_is_term : (k j : ℕ) → j ≤ k → unrank_of Allowed k j ≡ term_of k j
unrank_is_term k j h =
    let l : length (term_of k j) ≡ k = (term_is_a_word k j h).long in
    rw (l, term_has_its_rank k j) at (unrank_of_rank Allowed (term_of k j) (monotone-term (k - j) j))
