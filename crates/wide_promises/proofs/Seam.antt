-- Cases at the seam and at the limits, computed (02, §9). Assumes nothing.
--   set_in F u    the wide index of a word
--   after_63_comes_64    the successor of {63} is {64}
--   last_is_127    {127} has no successor
--   half_of_128_is_too_many    unranking rank 0 of 64 symbols below 128 is refused with 9, though it has a word
--   degree_15_fits, degree_16_does_not    of 128 symbols, the count of degree 15 answers and that of degree 16 is refused with 9
use mathlib.Core.Path.{◌≡◌, refl}
use mathlib.Core.List.{List, [], ◌∷◌}
use Prim.Native.Nat.{ℕ}
use Rattle.pascal.specs.Choose.{choose}
use Rattle.words.specs.declared.Family.{Family}
use Rattle.words.specs.declared.Family.TheVariants.{Forbidden}
use Rattle.words.specs.Word.{shifted}
use Rattle.words.specs.Next.{reset, next_from}
use Rattle.words.specs.Bits.{bits_of}
use Rattle.answers.specs.Says.{refuses, gives}
use Rattle.wide.specs.declared.Wide.{Wide}
use Rattle.wide.specs.Answers.{wide_of}
use Rattle.wide.specs.Rules.{wide_count_says, wide_unrank_over_says, wide_successor_says}
use Rattle.wide_unrank.proofs.Passing.{word_of_wide}

abbrev pub set_in : Family → List ℕ → Wide
set_in F u = wide_of F (bits_of (shifted F u))

pub after_63_comes_64 : wide_successor_says (set_in Forbidden (63 ∷ [])) ≡ gives (set_in Forbidden (64 ∷ []))
unfolding bits_of next_from reset
after_63_comes_64 = simp (word_of_wide Forbidden (63 ∷ []) tt)

pub last_is_127 : wide_successor_says (set_in Forbidden (127 ∷ [])) ≡ refuses 4
unfolding bits_of next_from reset
last_is_127 = simp (word_of_wide Forbidden (127 ∷ []) tt)

pub half_of_128_is_too_many : wide_unrank_over_says Forbidden 128 64 0 ≡ refuses 9
unfolding choose
half_of_128_is_too_many = refl

pub degree_15_fits : wide_count_says Forbidden 128 15 ≡ gives (choose 128 15)
unfolding choose
degree_15_fits = refl

pub degree_16_does_not : wide_count_says Forbidden 128 16 ≡ refuses 9
unfolding choose
degree_16_does_not = refl
