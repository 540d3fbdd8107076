-- The numbers of document 01 that were checked by hand. Assumes nothing.
--   hand_checked    every case of the list holds
-- A case is computed, but for the three sets with a high symbol: as many digits of an index are looked at as its bits say, and these are too many. There the
-- law serves that the word of a word's index is the word.
use mathlib.Core.Path.{◌≡◌, refl}
use mathlib.Core.List.{[], ◌∷◌}
use native.Mathlib.Omega.{arith}
use Rattle.pascal.specs.Choose.{choose}
use Rattle.words.specs.declared.Family.TheVariants.{Forbidden}
use Rattle.words.specs.Factorial.{factorial}
use Rattle.words.specs.Rank.{rank_from}
use Rattle.words.specs.Unrank.{greatest, fill}
use Rattle.words.specs.Next.{reset, next_from}
use Rattle.words.specs.Bits.{bits_of, ones_from}
use Rattle.words.specs.Inversions.{smaller_in, multiplicity, crossings, equal_pairs, inversions}
use Rattle.words.specs.Members.{stands_in}
use Rattle.bits.specs.Member.{reaches}
use Rattle.answers.specs.declared.Sign.TheVariants.{Plus}
use Rattle.answers.specs.Says.{refuses, gives}
use Rattle.answers.proofs.Terms.{word_of_index}
use Rattle.merging.specs.Sorting.{merged}
use Rattle.deletion.specs.Absent.{absent_from}
use Rattle.permutation.specs.Record.{zeros_only}
use Rattle.permutation.specs.Rules.{is_good, taken_arrangement}
use Rattle.permutation_order.specs.Rules.{numbered}
use Rattle.arrangements.specs.Permutation.{is_permutation}
use Rattle.arrangements.specs.Rank.{rank_up_to}
use Rattle.positional.specs.Positional.{product, corner_of, positional_value, digits_of}
use Rattle.monotone_walk.specs.Rules.{successor_says}
use Rattle.deletion.specs.Rules.{delete_says}
use Rattle.promises.specs.Checked.{AllConfirmed, none, ◌and◌, bits, set_of, removed, cases}

-- ---- sets with a high symbol

after_62 : successor_says (set_of (62 ∷ [])) ≡ gives (set_of (63 ∷ []))
unfolding bits_of next_from reset reaches
after_62 = simp (word_of_index Forbidden 64 (62 ∷ []) tt)

after_63 : successor_says (set_of (63 ∷ [])) ≡ refuses 4
unfolding bits_of next_from reset reaches
after_63 = simp (word_of_index Forbidden 64 (63 ∷ []) tt)

without_63 : delete_says (set_of (0 ∷ 2 ∷ 63 ∷ [])) 2 ≡ gives (removed Plus 63 (bits Forbidden 5))
unfolding bits_of reaches
without_63 = simp (word_of_index Forbidden 64 (0 ∷ 2 ∷ 63 ∷ []) (omega arith, (omega arith, tt)))

-- ---- the list

-- a line for each point
pub hand_checked : AllConfirmed cases
unfolding choose rank_from greatest fill next_from reset bits_of ones_from smaller_in multiplicity crossings equal_pairs inversions merged stands_in reaches absent_from
    taken_arrangement numbered is_good zeros_only is_permutation rank_up_to factorial product corner_of positional_value digits_of
hand_checked =
    refl and refl
    and refl and refl and refl
    and refl and refl
    and refl and refl and refl and refl
    and refl and after_62 and after_63 and refl
    and refl and refl
    and refl and without_63
    and refl
    and refl and refl and refl and refl
    and refl and refl and refl
    and refl and refl
    and refl
    and none
