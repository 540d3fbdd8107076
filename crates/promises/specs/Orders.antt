-- The order of a call's checks, by inputs that break two rules at once: the earlier check gives the refusal (RULES.md, "Checks"). Assumes nothing.
--   at F n a    the index of family F over n whose bits are a
--   zeros n, all n d    n symbols 0; n symbols d
--   orders    for each call that has refusals of two numbers, the inputs that tell their order
-- Each call is taken by the definition that its contract cites. The theorem is `orders-hold`.
use Rattle.std.specs.Prelude.{Some, None, List, [], ◌∷◌, ℕ, ◌^◌, replicate}
use Rattle.words.specs.declared.Family.{Family}
use Rattle.words.specs.declared.Family.TheVariants.{Forbidden, Allowed}
use Rattle.answers.specs.declared.Index.{Index}
use Rattle.answers.specs.Says.{refuses, refuses_at}
use Rattle.answers.specs.Terms.{index_of}
use Rattle.monotone_rank.specs.Rules.{rank_says, rank_of_says}
use Rattle.monotone.specs.Rules.{pack_says, unpack_says, symbol_says}
use Rattle.monotone_unrank.specs.Rules.{unrank_says, unrank_over_says, unrank_any_says}
use Rattle.monotone_walk.specs.Rules.{successor_says}
use Rattle.monotone_walk.specs.Walks.{step_says}
use Rattle.algebra.specs.Rules.{canonical_says, merge_says}
use Rattle.deletion.specs.Rules.{delete_says, complement_says, stabilizer_says}
use Rattle.permutation.specs.Record.{record_of}
use Rattle.permutation.specs.Rules.{image_says}
use Rattle.permutation_group.specs.Rules.{inverse_says, compose_says, sign_says}
use Rattle.permutation_order.specs.Rules.{arrangement_rank_says, arrangement_unrank_says, arrangement_successor_says}
use Rattle.cartesian.specs.Rules.{shape_count_says, linearize_says, delinearize_says}
use Rattle.cartesian_strides.specs.Rules.{strides_says, corner_says}
use Rattle.digits.specs.Rules.{digit_count_says, from_symbols_says, symbols_says, digit_symbol_says}
use Rattle.digits_algebra.specs.Rules.{multiplicity_says, digit_stabilizer_says, concat_says, digit_delete_says}
use Rattle.composition.specs.Rules.{word_says, from_word_says, add_says}
use Rattle.composition_rank.specs.Rules.{from_rank_says}
use Rattle.promises.specs.Checked.{Case, ◌is◌, digits}

abbrev pub at : Family → ℕ → ℕ → Index
at F n a = record { family = F; alphabet = n; bits = a }

abbrev pub all : ℕ → ℕ → List ℕ
all n d = replicate n d

abbrev pub zeros : ℕ → List ℕ
zeros n = all n 0

abbrev pub orders : List Case
orders =
    -- rank of a word: 1 (length), 2, 1 (last symbol)
    rank_says Forbidden (zeros 65) is refuses 1
    ∷ rank_says Forbidden (70 ∷ 69 ∷ []) is refuses_at 2 1
    -- pack: 1 (length or width), 2, 1 (last symbol), 7
    ∷ pack_says Forbidden 65 (9 ∷ 9 ∷ []) is refuses 1
    ∷ pack_says Forbidden 3 (70 ∷ 69 ∷ []) is refuses_at 2 1
    ∷ pack_says Forbidden 3 (64 ∷ []) is refuses 1
    ∷ pack_says Forbidden 3 (3 ∷ []) is refuses 7
    -- unpack: 1, 7, 8; symbol: 1, 7; the rank of an index: 1, 7
    ∷ unpack_says (at Forbidden 65 4) 0 is refuses 1
    ∷ unpack_says (at Forbidden 2 4) 0 is refuses 7
    ∷ symbol_says (at Forbidden 65 4) 9 is refuses 1
    ∷ rank_of_says (at Allowed 64 3) is refuses 1
    ∷ rank_of_says (at Forbidden 2 4) is refuses 7
    -- unrank: 1, 3, 8
    ∷ unrank_says Allowed 64 2 (2 ^ 63) 0 is refuses 1
    ∷ unrank_says Allowed 2 2 3 0 is refuses 3
    ∷ unrank_says Allowed 3 2 3 1 is refuses 8
    ∷ unrank_over_says Allowed 64 2 (2 ^ 63) is refuses 1
    ∷ unrank_any_says Forbidden 65 (2 ^ 63) is refuses 1
    -- successor: 1, 7, 4; a step: 1, 7, 4
    ∷ successor_says (at Forbidden 65 0) is refuses 1
    ∷ successor_says (at Forbidden 1 2) is refuses 7
    ∷ step_says (record { current = Some (at Forbidden 65 0); remaining = 0 }) is refuses 1
    ∷ step_says (record { current = Some (at Forbidden 2 4); remaining = 0 }) is refuses 7
    ∷ step_says (record { current = None; remaining = 5 }) is refuses 4
    -- canonicalise: 1 (length or width), 5, 1 (last symbol), 7
    ∷ canonical_says Forbidden 65 (9 ∷ 9 ∷ []) is refuses 1
    ∷ canonical_says Forbidden 3 (70 ∷ 70 ∷ []) is refuses 5
    ∷ canonical_says Forbidden 3 (64 ∷ []) is refuses 1
    ∷ canonical_says Forbidden 3 (3 ∷ []) is refuses 7
    -- merge: 1 of either, 7 of either, 6, 5, 1
    ∷ merge_says (at Forbidden 2 4) (at Allowed 64 3) is refuses 1
    ∷ merge_says (at Forbidden 2 4) (at Allowed 3 1) is refuses 7
    ∷ merge_says (at Forbidden 2 1) (at Allowed 3 1) is refuses 6
    ∷ merge_says (at Forbidden 2 1) (at Forbidden 2 1) is refuses 5
    ∷ merge_says (at Allowed 64 0) (at Allowed 1 3) is refuses 1
    -- deletion: 1, 7; complement: 1, 7, 6, 1, 7; stabilizer: 1, 7, 9
    ∷ delete_says (at Forbidden 65 4) 9 is refuses 1
    ∷ complement_says (at Allowed 65 0) 65 is refuses 1
    ∷ complement_says (at Allowed 1 2) 65 is refuses 7
    ∷ complement_says (at Allowed 2 1) 65 is refuses 6
    ∷ complement_says (at Forbidden 2 2) 65 is refuses 1
    ∷ complement_says (at Forbidden 2 2) 1 is refuses 7
    ∷ stabilizer_says (index_of Allowed 64 (zeros 21)) is refuses 1
    ∷ stabilizer_says (index_of Allowed 0 (zeros 21)) is refuses 7
    ∷ stabilizer_says (index_of Allowed 1 (zeros 21)) is refuses 9
    -- permutations: image 1, 10, 7; compose 1, 8, 10; the others 1, 10; unrank 1, 3; successor 1, 10, 4
    ∷ image_says (record_of (zeros 99)) 99 is refuses 1
    ∷ image_says (record_of (zeros 2)) 9 is refuses 10
    ∷ inverse_says (record_of (zeros 99)) is refuses 1
    ∷ sign_says (record_of (zeros 99)) is refuses 1
    ∷ compose_says (record_of (zeros 2)) (record_of (zeros 99)) is refuses 1
    ∷ compose_says (record_of (zeros 2)) (record_of (zeros 3)) is refuses 8
    ∷ arrangement_rank_says (record_of (zeros 99)) is refuses 1
    ∷ arrangement_unrank_says 21 (2 ^ 63) is refuses 1
    ∷ arrangement_successor_says (record_of (zeros 99)) is refuses 1
    ∷ arrangement_successor_says (record_of (1 ∷ 1 ∷ [])) is refuses 10
    -- shapes: count 1, 9; strides 1, 9, 8; linearize 1, 8, 7, 9; delinearize 1, 9, 3, 8; corner 1, 7, 9
    ∷ shape_count_says (all 17 (2 ^ 40)) is refuses 1
    ∷ strides_says (all 17 (2 ^ 40)) 0 is refuses 1
    ∷ strides_says (all 3 (2 ^ 40)) 0 is refuses 9
    ∷ linearize_says (all 17 2) [] is refuses 1
    ∷ linearize_says (2 ∷ 2 ∷ []) (5 ∷ []) is refuses 8
    ∷ linearize_says (all 2 (2 ^ 40)) (all 2 (2 ^ 40)) is refuses 7
    ∷ delinearize_says (all 17 (2 ^ 40)) 0 0 is refuses 1
    ∷ delinearize_says (all 2 (2 ^ 40)) 0 0 is refuses 9
    ∷ delinearize_says (2 ∷ []) 2 0 is refuses 3
    ∷ delinearize_says (2 ∷ []) 1 0 is refuses 8
    ∷ corner_says (all 17 (2 ^ 40)) 12 is refuses 1
    ∷ corner_says (2 ^ 63 ∷ 2 ∷ 1 ∷ []) 12 is refuses 7
    -- digit words: from symbols 1, 7, 9; the word's own 1, 9, 3 ahead of the call's; concatenation: the first word's, the second's, 8, 1, 9
    ∷ digit_count_says 2 65 is refuses 1
    ∷ from_symbols_says 2 (all 65 2) is refuses 1
    ∷ from_symbols_says 2 (all 64 2) is refuses 7
    ∷ symbols_says (digits 2 65 0) 0 is refuses 1
    ∷ symbols_says (digits 2 64 0) 0 is refuses 9
    ∷ symbols_says (digits 2 1 2) 0 is refuses 3
    ∷ symbols_says (digits 2 1 1) 0 is refuses 8
    ∷ digit_symbol_says (digits 2 1 2) 9 is refuses 3
    ∷ digit_delete_says (digits 2 1 2) 9 is refuses 3
    ∷ multiplicity_says (digits 2 65 0) 0 is refuses 1
    ∷ digit_stabilizer_says (digits 1 21 1) is refuses 3
    ∷ digit_stabilizer_says (digits 1 21 0) is refuses 9
    ∷ concat_says (digits 2 3 8) (digits 2 65 0) is refuses 3
    ∷ concat_says (digits 2 3 0) (digits 3 65 0) is refuses 1
    ∷ concat_says (digits 2 40 0) (digits 3 40 0) is refuses 8
    ∷ concat_says (digits 2 40 0) (digits 2 40 0) is refuses 1
    ∷ concat_says (digits 2 32 0) (digits 2 32 0) is refuses 9
    -- exponents: word 1, 8; from a word 1, 7, 8; from a rank 1, 3, 8; addition 1, 1, 8 (lengths), 1 (sum), 8 (room)
    ∷ word_says (40 ∷ 40 ∷ []) 0 is refuses 1
    ∷ from_word_says 64 (99 ∷ 99 ∷ []) 0 is refuses 1
    ∷ from_word_says 2 (9 ∷ []) 0 is refuses 7
    ∷ from_word_says 2 (1 ∷ []) 0 is refuses 8
    ∷ from_rank_says 64 2 (2 ^ 63) 0 is refuses 1
    ∷ from_rank_says 2 2 3 0 is refuses 3
    ∷ from_rank_says 3 2 3 0 is refuses 8
    ∷ add_says (1 ∷ []) (65 ∷ 0 ∷ []) 0 is refuses 1
    ∷ add_says (40 ∷ []) (40 ∷ 0 ∷ []) 0 is refuses 8
    ∷ add_says (40 ∷ []) (40 ∷ []) 0 is refuses 1
    ∷ add_says (1 ∷ []) (1 ∷ []) 0 is refuses 8
    ∷ []
