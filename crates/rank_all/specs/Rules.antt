-- The ranks of many indices at once, for all inputs, in document 01's numbers (02, §12). The indices are of one family and one alphabet, each given by its bits. Assumes nothing.
--   index_with F n b    the index of the family F over the alphabet n with the bits b
--   judged_from F n i bs s    the index at position i is the first of bs: each is taken (02 §8: 1, 7), and the first that is not tells its position; otherwise s
--   ranks_of F n bs    the rank of each
--   set_ranks bs    the same by the sets of their bits; `ranks_by_sets` says that it is the same
--   rank_all_says F n bs room    1, 7 with the position of the index; 8 with the first position that has no room; the ranks
--   placed i v s    what the verdict on the index at position i makes of s
--   through j s    what the judgement of all makes of s
--   JudgesAll F n bs j    that is what judging them makes of it, whatever comes after
--   ranked_says r    what each case of the answer means
use Rattle.std.specs.Prelude.{Result, Ok, Err, ◌≡◌, List, [], ◌∷◌, map, ℕ, suc, ltb, length}
use Rattle.words.specs.declared.Family.{Family}
use Rattle.words.specs.declared.Family.TheVariants.{Forbidden}
use Rattle.words.specs.Rank.{rank_of}
use Rattle.words.specs.Bits.{set_bits}
use Rattle.answers.specs.declared.Index.{Index}
use Rattle.answers.specs.Says.{Says, gives, refuses_at, refused_at_if, number_of}
use Rattle.answers.specs.Terms.{word_of}
use Rattle.taking.specs.Taken.{too_wide, outside}
use Rattle.rank_all.specs.declared.PlacedRefusal.{PlacedRefusal}
use Rattle.answers.specs.declared.Refusal.{Refusal}

abbrev pub index_with : Family → ℕ → ℕ → Index
index_with F n b = record { family = F; alphabet = n; bits = b }

abbrev pub judged_from : Family → ℕ → ℕ → List ℕ → Says (List ℕ) → Says (List ℕ)
judged_from F n i [] s = s
judged_from F n i (b ∷ bs) s =
    refused_at_if (too_wide (index_with F n b)) 1 i (refused_at_if (outside (index_with F n b)) 7 i (judged_from F n (suc i) bs s))

abbrev pub ranks_of : Family → ℕ → List ℕ → List ℕ
ranks_of F n bs = map (λ b. rank_of F (word_of (index_with F n b))) bs

abbrev pub set_ranks : List ℕ → List ℕ
set_ranks bs = map (λ b. rank_of Forbidden (set_bits b)) bs

abbrev pub rank_all_says : Family → ℕ → List ℕ → ℕ → Says (List ℕ)
rank_all_says F n bs room = judged_from F n 0 bs (refused_at_if (ltb room (length bs)) 8 room (gives (ranks_of F n bs)))

-- ---- what the code finds, and answers

abbrev pub placed : ℕ → Result Unit Refusal → Says (List ℕ) → Says (List ℕ)
placed i (Ok tt) s = s
placed i (Err e) s = refuses_at (number_of e) i

abbrev pub through : Result Unit PlacedRefusal → Says (List ℕ) → Says (List ℕ)
through (Ok tt) s = s
through (Err e) s = refuses_at (number_of e.refusal) e.at

abbrev pub JudgesAll : Family → ℕ → List ℕ → Result Unit PlacedRefusal → Type 0
JudgesAll F n bs j = (s : Says (List ℕ)) → through j s ≡ judged_from F n 0 bs s

abbrev pub ranked_says : Result ℕ PlacedRefusal → Says ℕ
ranked_says (Ok k) = gives k
ranked_says (Err e) = refuses_at (number_of e.refusal) e.at
