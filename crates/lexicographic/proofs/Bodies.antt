-- The converter: each entry_at lands at its term, and converting there and back gives the same bytes. Assumes nothing.
--   lex-of-below, colex-of-below    places stay below the count
--   lex-of-colex, colex-of-lex    the two maps of places undo each other
--   new-body-long, old-body-long    a converted body is as long
--   new-entry-is-old-entry    the entry of a word in the new body, at its colex rank, is that in the old one, at its lexicographic rank
--   there_and_back, back-and-there    converting and returning gives the same bytes
use mathlib.Core.Path.{◌≡◌, sym, ap, ap₂, subst, ◌∙◌}
use mathlib.Core.List.{List}
use Prim.Native.Nat.{ℕ, ◌*◌, ◌<◌}
use native.Mathlib.Omega.{arith}
use lib.ListN.{length}
use Rattle.words.specs.declared.Family.{Family}
use Rattle.words.specs.Word.{Word, count}
use Rattle.words.specs.Rank.{rank_of}
use Rattle.words.specs.Unrank.{unrank_of}
use Rattle.words.proofs.Rank.{rank_below_count}
use Rattle.words.proofs.Unrank.{unrank_is_a_word, rank_of_unrank, unrank_of_rank}
use Rattle.lexicographic.specs.Order.{lex_rank, lex_unrank}
use Rattle.lexicographic.specs.Entries.{entry_at, rearranged}
use Rattle.lexicographic.specs.Bodies.{lex_of, colex_of, new_body, old_body}
use Rattle.lexicographic.proofs.Rank.{lex_rank_below_count, lex_unrank_is_a_word, lex_rank_of_unrank, lex_unrank_of_rank}
use Rattle.lexicographic.proofs.Entries.{rearranged_long, entry_of_rearranged, rearranged-back}

-- a word is the one of its rank
unranked : (F : Family) (n k : ℕ) (w : List ℕ) → Word F n k w → unrank_of F k (rank_of F w) ≡ w
unranked F n k w h = subst (λ (j : ℕ). unrank_of F j (rank_of F w) ≡ w) h.long (unrank_of_rank F w h.monotone)

module _ (F : Family) (n k : ℕ) where
  pub lex-of-below : (r : ℕ) → r < count F n k → lex_of F n k r < count F n k
  lex-of-below r h = lex_rank_below_count F n k (unrank_of F k r) (unrank_is_a_word F n k r h)

  pub colex-of-below : (r : ℕ) → r < count F n k → colex_of F n k r < count F n k
  colex-of-below r h = rank_below_count F n k (lex_unrank F n k r) (lex_unrank_is_a_word F n k r h)

  pub lex-of-colex : (r : ℕ) → r < count F n k → lex_of F n k (colex_of F n k r) ≡ r
  lex-of-colex r h = ap (lex_rank F n) (unranked F n k (lex_unrank F n k r) (lex_unrank_is_a_word F n k r h)) ∙ lex_rank_of_unrank F n k r h

  pub colex-of-lex : (r : ℕ) → r < count F n k → colex_of F n k (lex_of F n k r) ≡ r
  colex-of-lex r h = ap (rank_of F) (lex_unrank_of_rank F n k (unrank_of F k r) (unrank_is_a_word F n k r h)) ∙ rank_of_unrank F n k r h

  module _ (l : List ℕ) (e : length l ≡ 8 * count F n k) where
    pub new-body-long : length (new_body F n k l) ≡ length l
    new-body-long = rearranged_long (lex_of F n k) (count F n k) l (λ r h. omega (arith, lex-of-below r h)) ∙ sym e

    pub old-body-long : length (old_body F n k l) ≡ length l
    old-body-long = rearranged_long (colex_of F n k) (count F n k) l (λ r h. omega (arith, colex-of-below r h)) ∙ sym e

    pub new-entry-is-old-entry : (w : List ℕ) → Word F n k w → entry_at (new_body F n k l) (rank_of F w) ≡ entry_at l (lex_rank F n w)
    new-entry-is-old-entry w h =
        entry_of_rearranged (lex_of F n k) (count F n k) l (λ r b. omega (arith, lex-of-below r b)) (rank_of F w) (rank_below_count F n k w h)
        ∙ ap (λ (u : List ℕ). entry_at l (lex_rank F n u)) (unranked F n k w h)

    pub there_and_back : old_body F n k (new_body F n k l) ≡ l
    there_and_back = rearranged-back (lex_of F n k) (colex_of F n k) (count F n k) l e lex-of-below colex-of-below lex-of-colex

    pub back-and-there : new_body F n k (old_body F n k l) ≡ l
    back-and-there = rearranged-back (colex_of F n k) (lex_of F n k) (count F n k) l e colex-of-below lex-of-below colex-of-lex
