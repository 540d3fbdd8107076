-- The order of a call's checks, by inputs that break two rules at once. Assumes nothing.
--   orders-hold    every case of the list holds
-- A case is computed, but for the index of many equal symbols, whose digits are too many to be looked at one by one: there the law serves that the word of a
-- word's index is the word.
use mathlib.Core.Path.{◌≡◌, refl}
use Rattle.pascal.specs.Choose.{choose}
use Rattle.words.specs.declared.Family.TheVariants.{Allowed}
use Rattle.words.specs.Factorial.{factorial}
use Rattle.words.specs.Bits.{bits_of, ones_from}
use Rattle.words.specs.Inversions.{smaller_in, multiplicity, crossings, equal_pairs, inversions}
use Rattle.words.specs.Members.{stands_in}
use Rattle.bits.specs.Member.{reaches}
use Rattle.answers.specs.Says.{refuses}
use Rattle.answers.specs.Terms.{index_of}
use Rattle.answers.proofs.Terms.{word_of_index}
use Rattle.packing.proofs.Checks.{rises_is_monotone}
use Rattle.merging.specs.Sorting.{insert, sorted, repeats}
use Rattle.deletion.specs.Multiplicities.{ceiling_of, stabilizer_below}
use Rattle.deletion.specs.Rules.{stabilizer_says}
use Rattle.permutation.specs.Record.{zeros_only}
use Rattle.permutation.specs.Rules.{is_good, taken_arrangement}
use Rattle.permutation_order.specs.Rules.{numbered}
use Rattle.arrangements.specs.Permutation.{is_permutation}
use Rattle.positional.specs.Positional.{product, corner_of, positional_value, digits_of}
use Rattle.composition.specs.Exponents.{sum_of, added}
use Rattle.promises.specs.Checked.{AllConfirmed, none, ◌and◌}
use Rattle.promises.specs.Orders.{zeros, orders}

-- ---- twenty-one equal symbols

equal-symbols-wide : stabilizer_says (index_of Allowed 64 (zeros 21)) ≡ refuses 1
unfolding reaches multiplicity factorial
equal-symbols-wide = simp (word_of_index Allowed 64 (zeros 21) ((rises_is_monotone Allowed (zeros 21)).0 refl))

equal-symbols-outside : stabilizer_says (index_of Allowed 0 (zeros 21)) ≡ refuses 7
unfolding reaches multiplicity factorial
equal-symbols-outside = simp (word_of_index Allowed 0 (zeros 21) ((rises_is_monotone Allowed (zeros 21)).0 refl))

equal-symbols-big : stabilizer_says (index_of Allowed 1 (zeros 21)) ≡ refuses 9
unfolding reaches multiplicity factorial ceiling_of stabilizer_below
equal-symbols-big = simp (word_of_index Allowed 1 (zeros 21) ((rises_is_monotone Allowed (zeros 21)).0 refl))

-- ---- the list

pub orders-hold : AllConfirmed orders
unfolding choose factorial bits_of ones_from smaller_in multiplicity crossings equal_pairs inversions stands_in reaches taken_arrangement numbered is_good zeros_only is_permutation product corner_of positional_value
    digits_of insert sorted repeats ceiling_of stabilizer_below sum_of added
orders-hold =
    refl and refl and refl and refl and refl and refl and refl and refl
    and refl and refl and refl and refl and refl and refl and refl and refl
    and refl and refl and refl and refl and refl and refl and refl and refl
    and refl and refl and refl and refl and refl and refl and refl and refl
    and refl and refl and refl and refl and equal-symbols-wide and equal-symbols-outside and equal-symbols-big and refl
    and refl and refl and refl and refl and refl and refl and refl and refl
    and refl and refl and refl and refl and refl and refl and refl and refl
    and refl and refl and refl and refl and refl and refl and refl and refl
    and refl and refl and refl and refl and refl and refl and refl and refl
    and refl and refl and refl and refl and refl and refl and refl and refl
    and refl and refl and refl and refl and refl and refl and refl and refl
    and refl
    and none
