-- What the rank of an index and of a word is, for all inputs, in document 01's numbers: the checks in 01's order, and then the value. Assumes nothing.
--   rank_of_says x    taken (02 §8: 1, 7); the rank
--   rank_says F w    1, 2, 1; the rank
use Rattle.std.specs.Prelude.{List, ℕ}
use Rattle.words.specs.declared.Family.{Family}
use Rattle.words.specs.Rank.{rank_of}
use Rattle.answers.specs.declared.Index.{Index}
use Rattle.answers.specs.Says.{Says, gives}
use Rattle.answers.specs.Terms.{word_of}
use Rattle.taking.specs.Taken.{taken}
use Rattle.monotone.specs.Rules.{checked}

abbrev pub rank_of_says : Index → Says ℕ
rank_of_says x = taken x (gives (rank_of x.family (word_of x)))

abbrev pub rank_says : Family → List ℕ → Says ℕ
rank_says F w = checked F w (rank_of F w)
