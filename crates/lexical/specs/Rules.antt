-- What each call on lexicographic order answers (02 §11), for all inputs: its checks in order, and then the value. Assumes nothing.
--   lex_rank_says F n w    the checks of a word given with n, as packing has them: 1, 2, 1, 7; the lexicographic rank
--   lex_unrank_says F n k r room    the count's refusal; 3; 8; the word of lexicographic rank r
--   lex_successor_says F n w room    the checks of a word given with n; 4 if no word is later; 8; the next word
use Rattle.std.specs.Prelude.{not, List, ℕ, leb, ltb, length}
use Rattle.words.specs.declared.Family.{Family}
use Rattle.answers.specs.Says.{Says, gives, refused_if, and_then}
use Rattle.monotone_count.specs.Rules.{count_says}
use Rattle.monotone.specs.Rules.{checked_over}
use Rattle.lexicographic.specs.Order.{lex_rank, lex_unrank, has_later, lex_next}

abbrev pub lex_rank_says : Family → ℕ → List ℕ → Says ℕ
lex_rank_says F n w = checked_over F n w (lex_rank F n w)

abbrev pub lex_unrank_says : Family → ℕ → ℕ → ℕ → ℕ → Says (List ℕ)
lex_unrank_says F n k r room = and_then (count_says F n k) (λ c. refused_if (leb c r) 3 (refused_if (ltb room k) 8 (gives (lex_unrank F n k r))))

abbrev pub lex_successor_says : Family → ℕ → List ℕ → ℕ → Says (List ℕ)
lex_successor_says F n w room =
    and_then (checked_over F n w w) (λ v. refused_if (not (has_later F n v)) 4 (refused_if (ltb room (length v)) 8 (gives (lex_next F n v))))
