-- Concatenation and the stabilizer of digit words, worked out. Assumes nothing.
use mathlib.Core.Path.{◌≡◌, refl}
use Prim.Native.Nat.{ℕ}
use Rattle.words.specs.Factorial.{factorial}
use Rattle.words.specs.Inversions.{multiplicity}
use Rattle.answers.specs.Says.{refuses}
use Rattle.positional.specs.Positional.{digits_of}
use Rattle.deletion.specs.Multiplicities.{ceiling_of, stabilizer_below}
use Rattle.digits.specs.declared.DigitWord.{DigitWord}
use Rattle.digits_algebra.specs.Rules.{digit_stabilizer_says, concat_says}

abbrev word : ℕ → ℕ → ℕ → DigitWord
word n k r = record { radix = n; degree = k; rank = r }

first_operand_first : concat_says (word 2 3 8) (word 2 65 0) ≡ refuses 3
first_operand_first = refl

empty_words_over_two_radices : concat_says (word 2 0 0) (word 3 0 0) ≡ refuses 8
empty_words_over_two_radices = refl

forty_and_forty : concat_says (word 2 40 0) (word 2 40 0) ≡ refuses 1
forty_and_forty = refl

thirty_two_and_thirty_two : concat_says (word 2 32 0) (word 2 32 0) ≡ refuses 9
thirty_two_and_thirty_two = refl

one_symbol_no_rank : digit_stabilizer_says (word 1 21 1) ≡ refuses 3
one_symbol_no_rank = refl

one_symbol_stabilizer : digit_stabilizer_says (word 1 21 0) ≡ refuses 9
unfolding digits_of ceiling_of stabilizer_below multiplicity factorial
one_symbol_stabilizer = refl
