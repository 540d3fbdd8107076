-- A digit word, as it crosses to a program in C. Assumes nothing.
--   word_at radix degree rank    the digit word that has these three parts
--   degree_of_word x, rank_of_word x    the parts of a digit word that is given; its radix is the one that was asked for
--   symbol_of_taken t, rank_of_taken t    the parts of a deletion: the symbol, and the rank of the word that is left
use Rattle.std.specs.Prelude.{ℕ}
use Rattle.digits.specs.declared.DigitWord.{DigitWord}
use Rattle.digits.specs.declared.TakenOut.{TakenOut}

abbrev pub word_at : ℕ → ℕ → ℕ → DigitWord
word_at radix degree rank = record { radix = radix; degree = degree; rank = rank }

abbrev pub degree_of_word : DigitWord → ℕ
degree_of_word x = x.degree

abbrev pub rank_of_word : DigitWord → ℕ
rank_of_word x = x.rank

abbrev pub symbol_of_taken : TakenOut → ℕ
symbol_of_taken t = t.symbol

abbrev pub rank_of_taken : TakenOut → ℕ
rank_of_taken t = t.left.rank
