-- Small cases, by computation, beyond those of `promises` (the largest count, the corner cases of the radix 0). Assumes nothing.
use mathlib.Core.Path.{◌≡◌, refl}
use mathlib.Core.List.{[], ◌∷◌}
use Prim.Native.Nat.{ℕ}
use Rattle.bits.specs.Member.{reaches}
use Rattle.answers.specs.Says.{refuses, gives}
use Rattle.digits.specs.declared.DigitWord.{DigitWord}
use Rattle.digits.specs.Rules.{digit_count_says, check_says, from_symbols_says}

abbrev word : ℕ → ℕ → ℕ → DigitWord
word n k r = record { radix = n; degree = k; rank = r }

largest : digit_count_says 2 63 ≡ gives 9223372036854775808
largest = refl

too_big_lem : digit_count_says 2 64 ≡ refuses 9
too_big_lem = refl

no_symbols : check_says (word 0 0 0) ≡ gives 1
no_symbols = refl

no_radix : check_says (word 0 1 0) ≡ refuses 3
no_radix = refl

no_radix_symbols : from_symbols_says 0 (0 ∷ []) ≡ refuses 7
unfolding reaches
no_radix_symbols = refl
