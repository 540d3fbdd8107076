-- What each call on digit words answers, for all inputs, in document 01's numbers: its checks in 01's order, and then the value. A digit word is its radix, its
-- degree and its rank; its symbols are the digits of the rank in as many equal radices as the degree says. Assumes nothing.
--   symbols_of x    the symbols, that of position 0 first
--   digit_word_of n w    the digit word over radix n that has the symbols w
--   digit_count_says n k    1 if k is above 64; 9; the count n ^ k
--   check_says x    the checks of a given word: those of its count; 3 if the rank is not below it; the count
--   given x s    these checks, and then s
--   symbols_says x room    these; 8; the symbols
--   digit_symbol_says x p    these; 7; the symbol at position p
--   from_symbols_says n w    1 if there are more than 64; 7 if a symbol is not below the radix; 9; the digit word
use Rattle.std.specs.Prelude.{List, ℕ, ◌^◌, leb, ltb, length, get_or, replicate}
use Rattle.answers.specs.Says.{Says, gives, refused_if, and_then}
use Rattle.bits.specs.Member.{reaches}
use Rattle.positional.specs.Positional.{positional_value, digits_of}
use Rattle.cartesian.specs.Checks.{number_says}
use Rattle.digits.specs.declared.DigitWord.{DigitWord}

abbrev pub symbols_of : DigitWord → List ℕ
symbols_of x = digits_of (replicate x.degree x.radix) x.rank

abbrev pub digit_word_of : ℕ → List ℕ → DigitWord
digit_word_of n w = record { radix = n; degree = length w; rank = positional_value (replicate (length w) n) w }

-- ---- the count, and the checks of a given word

abbrev pub digit_count_says : ℕ → ℕ → Says ℕ
digit_count_says n k = refused_if (ltb 64 k) 1 (number_says (n ^ k))

abbrev pub check_says : DigitWord → Says ℕ
check_says x = and_then (digit_count_says x.radix x.degree) (λ c. refused_if (leb c x.rank) 3 (gives c))

abbrev pub given : {A : Type 0} → DigitWord → Says A → Says A
given x s = and_then (check_says x) (λ c. s)

-- ---- the symbols

abbrev pub symbols_says : DigitWord → ℕ → Says (List ℕ)
symbols_says x room = given x (refused_if (ltb room x.degree) 8 (gives (symbols_of x)))

abbrev pub digit_symbol_says : DigitWord → ℕ → Says ℕ
digit_symbol_says x p = given x (refused_if (leb x.degree p) 7 (gives (get_or (symbols_of x) p 0)))

abbrev pub from_symbols_says : ℕ → List ℕ → Says DigitWord
from_symbols_says n w =
    refused_if (ltb 64 (length w)) 1 (refused_if (reaches n w) 7 (refused_if (leb (2 ^ 64) (n ^ length w)) 9 (gives (digit_word_of n w))))
