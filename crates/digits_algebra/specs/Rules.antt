-- What multiplicities, the stabilizer, concatenation and deletion of digit words answer, for all inputs, in document 01's numbers: the checks in 01's order, and then the
-- value. Assumes nothing.
--   multiplicity_says x s    these; how many positions carry s
--   digit_stabilizer_says x    these; 9; the stabilizer of the symbols
--   digit_join_says x y    8 if the radices differ; 1; 9; the word of the symbols of x, and then those of y
--   concat_says x y    the checks of x; those of y; and then these
--   take_says x p    7; the symbol at position p, and the word without that position
--   digit_delete_says x p    the checks of x; and then these
use Rattle.std.specs.Prelude.{not, ◌++◌, ℕ, ◌+◌, ◌^◌, leb, ltb, eqb, get_or}
use Rattle.words.specs.Inversions.{multiplicity}
use Rattle.words.specs.Without.{without}
use Rattle.answers.specs.Says.{Says, gives, refused_if}
use Rattle.cartesian.specs.Checks.{number_says}
use Rattle.deletion.specs.Multiplicities.{stabilizer_of}
use Rattle.digits.specs.declared.DigitWord.{DigitWord}
use Rattle.digits.specs.Rules.{symbols_of, digit_word_of, given}
use Rattle.digits.specs.declared.TakenOut.{TakenOut}

abbrev pub multiplicity_says : DigitWord → ℕ → Says ℕ
multiplicity_says x s = given x (gives (multiplicity s (symbols_of x)))

abbrev pub digit_stabilizer_says : DigitWord → Says ℕ
digit_stabilizer_says x = given x (number_says (stabilizer_of (symbols_of x)))

-- two words that have passed their checks
abbrev pub digit_join_says : DigitWord → DigitWord → Says DigitWord
digit_join_says x y =
    refused_if (not (eqb x.radix y.radix)) 8
    (refused_if (ltb 64 (x.degree + y.degree)) 1
    (refused_if (leb (2 ^ 64) (x.radix ^ (x.degree + y.degree))) 9
    (gives (digit_word_of x.radix (symbols_of x ++ symbols_of y)))))

abbrev pub concat_says : DigitWord → DigitWord → Says DigitWord
concat_says x y = given x (given y (digit_join_says x y))

-- a word that has passed its checks
abbrev pub take_says : DigitWord → ℕ → Says TakenOut
take_says x p =
    refused_if (leb x.degree p) 7
    (gives (record { symbol = get_or (symbols_of x) p 0; left = digit_word_of x.radix (without p (symbols_of x)) }))

abbrev pub digit_delete_says : DigitWord → ℕ → Says TakenOut
digit_delete_says x p = given x (take_says x p)
