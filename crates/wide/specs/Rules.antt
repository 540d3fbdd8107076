-- What each call on wide terms answers, for all inputs, in the numbers of documents 01 and 02: the rules over the number of bits (`widths`), read at 128 bits and at the
-- greatest shifted symbol 127. No index is refused for what it holds (02, §9: "no alphabet"), and 9 comes where a rank or a count is a number. Assumes nothing.
--   as_wide F s    an answer that is a number, as a wide index
--   wide_count_says F n k    1 if k or the shifted alphabet is above 128; 9 if the count is 2 ^ 64 or more; the count
--   wide_rank_says F u    1, 2, 1; 9; the rank of the word
--   wide_rank_of_says x    9; the rank
--   wide_unrank_over_says F n k r    the count's refusal; 3; the index of the word of rank r
--   wide_unrank_says F n k r room    the count's refusal; 3; 8; the word of rank r
--   wide_unrank_any_says F k r    1 if k is above 128; then as over the widest alphabet
--   wide_successor_says x    4 if no index of that degree in 128 bits is later; the index of the next word
--   merged_wide_says F u v    two words of one family merged: 5; 1 if the last shifted symbol is above 127; the sign of the crossings and the index of the merged word
--   wide_merge_says x y    6 if the families differ; then as their words
--   wide_delete_says x p    7; the sign, the symbol at position p, and the index of the word without it
use Rattle.std.specs.Prelude.{not, List, ℕ, leb, ltb}
use Rattle.words.specs.declared.Family.{Family}
use Rattle.words.specs.Word.{shifted}
use Rattle.words.specs.Rank.{rank_of}
use Rattle.words.specs.Unrank.{unrank_of}
use Rattle.words.specs.Bits.{bits_of}
use Rattle.words.specs.Inversions.{crossings, equal_pairs}
use Rattle.merging.specs.Sorting.{merged}
use Rattle.answers.specs.declared.Sign.{Sign}
use Rattle.answers.specs.Says.{Says, gives, refused_if, and_then}
use Rattle.answers.specs.Signs.{sign_in}
use Rattle.algebra.specs.Rules.{same_family, forbids}
use Rattle.widths.specs.Rules.{word_in, count_in, held_says, checked_in, widest_in, successor_in, bits_says_in, delete_in}
use Rattle.wide.specs.declared.Wide.{Wide}
use Rattle.wide.specs.Answers.{whole_of, wide_of}
use Rattle.wide.specs.declared.WideTerm.{WideTerm}
use Rattle.wide.specs.declared.WideGap.{WideGap}

abbrev pub as_wide : Family → Says ℕ → Says Wide
as_wide F s = and_then s (λ a. gives (wide_of F a))

-- ---- counting, ranking, unranking

abbrev pub wide_count_says : Family → ℕ → ℕ → Says ℕ
wide_count_says F n k = and_then (count_in 128 F n k) held_says

abbrev pub wide_rank_says : Family → List ℕ → Says ℕ
wide_rank_says F u = checked_in 127 F u (held_says (rank_of F u))

abbrev pub wide_rank_of_says : Wide → Says ℕ
wide_rank_of_says x = held_says (rank_of x.family (word_in x.family (whole_of x)))

abbrev pub wide_unrank_over_says : Family → ℕ → ℕ → ℕ → Says Wide
wide_unrank_over_says F n k r = as_wide F (and_then (wide_count_says F n k) (λ c. refused_if (leb c r) 3 (gives (bits_of (shifted F (unrank_of F k r))))))

abbrev pub wide_unrank_says : Family → ℕ → ℕ → ℕ → ℕ → Says (List ℕ)
wide_unrank_says F n k r room = and_then (wide_count_says F n k) (λ c. refused_if (leb c r) 3 (refused_if (ltb room k) 8 (gives (unrank_of F k r))))

abbrev pub wide_unrank_any_says : Family → ℕ → ℕ → Says Wide
wide_unrank_any_says F k r = refused_if (ltb 128 k) 1 (wide_unrank_over_says F (widest_in 128 F k) k r)

-- ---- the next term

abbrev pub wide_successor_says : Wide → Says Wide
wide_successor_says x = as_wide x.family (successor_in 128 x.family (whole_of x))

-- ---- merging

-- a sign beside the index of a set
abbrev pub signed_wide : Family → Sign → Says ℕ → Says WideTerm
signed_wide F g s = and_then s (λ a. gives (record { sign = g; index = wide_of F a }))

abbrev pub merged_wide_says : Family → List ℕ → List ℕ → Says WideTerm
merged_wide_says F u v = refused_if (forbids F (equal_pairs u v)) 5 (signed_wide F (sign_in F (crossings u v)) (bits_says_in 127 F (merged u v)))

abbrev pub wide_merge_says : Wide → Wide → Says WideTerm
wide_merge_says x y = refused_if (not (same_family x.family y.family)) 6 (merged_wide_says x.family (word_in x.family (whole_of x)) (word_in y.family (whole_of y)))

-- ---- deletion

abbrev pub wide_delete_says : Wide → ℕ → Says WideGap
wide_delete_says x p = and_then (delete_in x.family (whole_of x) p) (λ g. gives (record { sign = g.sign; symbol = g.symbol; index = wide_of x.family g.bits }))
