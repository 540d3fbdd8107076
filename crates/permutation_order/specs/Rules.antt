-- What each call answers, for all inputs: the checks of document 01 in their order, and then the value (01, "Permutations" and the lines of refusals).
-- Assumes nothing.
--   longest_numbered    the greatest length whose permutations are numbered: the ranks of one entry more do not fit a machine word
--   held e n    the record of the entries e and the length n
--   unnumbered n    a length above it: 1
--   numbered p    the permutation that a record holds, if it is not too long to be numbered
--   Ordered p    the record holds a permutation that is not too long to be numbered
--   arrangement_rank_says p    the rank of the permutation that a record holds
--   arrangement_unrank_says n r    the permutation of n entries and rank r: 3 if there are not so many
--   arrangement_successor_says p    the permutation of the next rank: 4 if there is none
use Rattle.std.specs.Prelude.{Bool, List, ℕ, suc, ◌≤◌, leb, ltb}
use Rattle.words.specs.Factorial.{factorial}
use Rattle.arrangements.specs.Rank.{arrangement_rank, arrangement_unrank}
use Rattle.answers.specs.Says.{Says, gives, refused_if, and_then}
use Rattle.permutation.specs.declared.Permutation.{Permutation}
use Rattle.permutation.specs.Record.{GoodRecord}
use Rattle.permutation.specs.Rules.{taken_arrangement}

abbrev pub longest_numbered : ℕ
longest_numbered = 20

abbrev pub held : List ℕ → ℕ → Permutation
held e n = record { entries = e; len = n }

abbrev pub unnumbered : ℕ → Bool
unnumbered n = ltb longest_numbered n

unfoldable pub numbered : Permutation → Says (List ℕ)
numbered p = refused_if (unnumbered p.len) 1 (taken_arrangement p)

pub record Ordered (p : Permutation) : Type 0 where
  pub holds : GoodRecord p
  pub few : p.len ≤ longest_numbered

abbrev pub arrangement_rank_says : Permutation → Says ℕ
arrangement_rank_says p = and_then (numbered p) (λ w. gives (arrangement_rank w))

abbrev pub arrangement_unrank_says : ℕ → ℕ → Says (List ℕ)
arrangement_unrank_says n r = refused_if (unnumbered n) 1 (refused_if (leb (factorial n) r) 3 (gives (arrangement_unrank n r)))

abbrev pub arrangement_successor_says : Permutation → Says (List ℕ)
arrangement_successor_says p = and_then (numbered p) (λ w. refused_if (leb (factorial p.len) (suc (arrangement_rank w))) 4 (gives (arrangement_unrank p.len (suc (arrangement_rank w)))))
