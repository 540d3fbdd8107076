-- How many words stand later, symbol by symbol, and the run of numbers that the next set moves. Assumes nothing.
--   later_words F n w    how many words of as many symbols over n stand later than w in lexicographic order: `rank_of_mirror` says that it is the rank of the mirrored word
--   later_sets a k r    the same of the set of k numbers below a that has the colex rank r
--   run w    how many numbers of a set follow its lowest one without a gap: the next set raises the last of them, and the others fall to the bottom
use Rattle.std.specs.Prelude.{List, [], ◌∷◌, ℕ, suc, ◌+◌, ◌-◌, ltb, length}
use Rattle.words.specs.declared.Family.{Family}
use Rattle.words.specs.declared.Family.TheVariants.{Forbidden}
use Rattle.pascal.specs.Choose.{choose}
use Rattle.words.specs.Pick.{pick}
use Rattle.words.specs.Word.{shift}
use Rattle.words.specs.Unrank.{unrank_of}

unfoldable pub later_words : Family → ℕ → List ℕ → ℕ
later_words F n [] = 0
later_words F n (x ∷ xs) = choose ((n - suc x) + shift F (length xs)) (suc (length xs)) + later_words F n xs

abbrev pub later_sets : ℕ → ℕ → ℕ → ℕ
later_sets a k r = later_words Forbidden a (unrank_of Forbidden k r)

unfoldable pub run : List ℕ → ℕ
run [] = 0
run (x ∷ []) = 0
run (x ∷ y ∷ ys) = pick (ltb (suc x) y) 0 (suc (run (y ∷ ys)))
