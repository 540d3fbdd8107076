-- Small cases, by computation (the corner cases of the width, and a word and its exponents). Assumes nothing.
use mathlib.Core.Path.{◌≡◌, refl}
use mathlib.Core.List.{[], ◌∷◌}
use Rattle.words.specs.Inversions.{multiplicity}
use Rattle.bits.specs.Member.{reaches}
use Rattle.answers.specs.Says.{refuses, gives}
use Rattle.composition.specs.Exponents.{sum_of, spelled_from, tally_from, added}
use Rattle.composition.specs.Rules.{word_says, from_word_says, add_says}

exact-sum : word_says (9223372036854775808 ∷ 9223372036854775808 ∷ []) 64 ≡ refuses 1
unfolding sum_of
exact-sum = refl

two_symbols_over_sixty_four : from_word_says 64 (0 ∷ 0 ∷ []) 64 ≡ refuses 1
two_symbols_over_sixty_four = refl

spelled_out : word_says (2 ∷ 0 ∷ 1 ∷ []) 3 ≡ gives (0 ∷ 0 ∷ 2 ∷ [])
unfolding sum_of spelled_from
spelled_out = refl

counted : from_word_says 3 (2 ∷ 0 ∷ 0 ∷ []) 3 ≡ gives (2 ∷ 0 ∷ 1 ∷ [])
unfolding reaches tally_from multiplicity
counted = refl

outside : from_word_says 3 (3 ∷ []) 0 ≡ refuses 7
unfolding reaches
outside = refl

sum_too_wide : add_says (40 ∷ []) (40 ∷ []) 1 ≡ refuses 1
unfolding sum_of added
sum_too_wide = refl
