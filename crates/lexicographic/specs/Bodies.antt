-- An old body, its entries in lexicographic order, as a new one, in colex order, and back (02 §11). Assumes nothing.
--   lex_of F n k r    the place in lexicographic order of the word that has place r in colex order
--   colex_of F n k r    and the other way round
--   new_body F n k l    the entries of l, an old body, in the new order
--   old_body F n k l    the entries of l, a new body, in the old order
use Rattle.std.specs.Prelude.{List, ℕ}
use Rattle.words.specs.declared.Family.{Family}
use Rattle.words.specs.Word.{count}
use Rattle.words.specs.Rank.{rank_of}
use Rattle.words.specs.Unrank.{unrank_of}
use Rattle.lexicographic.specs.Order.{lex_rank, lex_unrank}
use Rattle.lexicographic.specs.Entries.{rearranged}

abbrev pub lex_of : Family → ℕ → ℕ → ℕ → ℕ
lex_of F n k r = lex_rank F n (unrank_of F k r)

abbrev pub colex_of : Family → ℕ → ℕ → ℕ → ℕ
colex_of F n k r = rank_of F (lex_unrank F n k r)

abbrev pub new_body : Family → ℕ → ℕ → List ℕ → List ℕ
new_body F n k l = rearranged (lex_of F n k) (count F n k) l

abbrev pub old_body : Family → ℕ → ℕ → List ℕ → List ℕ
old_body F n k l = rearranged (colex_of F n k) (count F n k) l
