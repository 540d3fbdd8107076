-- The numbers of document 01 that were checked by hand ("Numbers checked by hand"), as one list of cases under one claim. Assumes nothing.
--   Case    the case s is a: what a call's definition says of its arguments, and what the document says
--   Confirmed c, AllConfirmed cs    the two are equal; they are so in every case of the list
--   over F    the alphabet that the index cases are read over (02 §8): 64 for Forbidden, 3 for Allowed
--   bits F a, set_of w, term F w    the index of family F whose bits are a, the Forbidden index of a set of symbols, and that of a word
--   signed s x, removed s a x    a sign and an index; a sign, a symbol and an index
--   digits n k r, taken_out a x    the digit word of radix n, degree k and rank r; a symbol and a digit word
--   cases    the twelve points of the document, line by line
-- Each call is taken by the definition that its contract cites; an output has as many places as are written. The theorem is `hand_checked`.
use Rattle.std.specs.Prelude.{◌≡◌, List, [], ◌∷◌, ℕ, ◌^◌}
use Rattle.words.specs.declared.Family.{Family}
use Rattle.words.specs.declared.Family.TheVariants.{Forbidden, Allowed}
use Rattle.words.specs.Bits.{bits_of}
use Rattle.answers.specs.declared.Index.{Index}
use Rattle.answers.specs.declared.Sign.{Sign}
use Rattle.answers.specs.declared.Sign.TheVariants.{Plus, Minus}
use Rattle.answers.specs.Says.{Says, refuses, gives}
use Rattle.answers.specs.Terms.{index_of}
use Rattle.monotone_count.specs.Rules.{count_says}
use Rattle.monotone_rank.specs.Rules.{rank_says}
use Rattle.monotone_unrank.specs.Rules.{unrank_says, unrank_over_says}
use Rattle.monotone_walk.specs.Rules.{successor_says}
use Rattle.algebra.specs.Rules.{merge_says}
use Rattle.deletion.specs.Rules.{delete_says, complement_says}
use Rattle.permutation.specs.Record.{record_of}
use Rattle.permutation_order.specs.Rules.{arrangement_rank_says}
use Rattle.cartesian.specs.Rules.{shape_count_says, linearize_says}
use Rattle.cartesian_strides.specs.Rules.{strides_says, corner_says}
use Rattle.digits.specs.declared.DigitWord.{DigitWord}
use Rattle.digits.specs.Rules.{from_symbols_says}
use Rattle.digits_algebra.specs.Rules.{digit_delete_says}
use Rattle.answers.specs.declared.SignedTerm.{SignedTerm}
use Rattle.deletion.specs.declared.Removed.{Removed}
use Rattle.digits.specs.declared.TakenOut.{TakenOut}

-- ---- cases

infix 68 ◌is◌
pub data Case : Type 1 where
  ◌is◌ : {A : Type 0} → Says A → Says A → Case

abbrev pub Confirmed : Case → Type 0
Confirmed (s is a) = s ≡ a

infixr 4 ◌and◌
pub data AllConfirmed : List Case → Type 1 where
  none : AllConfirmed []
  ◌and◌ : {c : Case} {cs : List Case} → Confirmed c → AllConfirmed cs → AllConfirmed (c ∷ cs)

-- ---- values of several parts

abbrev pub over : Family → ℕ
over Forbidden = 64
over Allowed = 3

abbrev pub bits : Family → ℕ → Index
bits F a = record { family = F; alphabet = over F; bits = a }

abbrev pub term : Family → List ℕ → Index
term F w = index_of F (over F) w

abbrev pub set_of : List ℕ → Index
set_of w = term Forbidden w

abbrev pub signed : Sign → Index → SignedTerm
signed s x = record { sign = s; index = x }

abbrev pub removed : Sign → ℕ → Index → Removed
removed s a x = record { sign = s; symbol = a; index = x }

abbrev pub digits : ℕ → ℕ → ℕ → DigitWord
digits n k r = record { radix = n; degree = k; rank = r }

abbrev pub taken_out : ℕ → DigitWord → TakenOut
taken_out a x = record { symbol = a; left = x }

-- ---- the twelve points

abbrev pub cases : List Case
cases =
    -- 1. count(Forbidden,4,2) = 6; count(Allowed,3,2) = 6
    count_says Forbidden 4 2 is gives 6
    ∷ count_says Allowed 3 2 is gives 6
    -- 2. count(either,0,0) = 1; count(Allowed,0,3) = 0
    ∷ count_says Forbidden 0 0 is gives 1
    ∷ count_says Allowed 0 0 is gives 1
    ∷ count_says Allowed 0 3 is gives 0
    -- 3. rank Forbidden (1,3) = 4; Allowed (1,1) = 2
    ∷ rank_says Forbidden (1 ∷ 3 ∷ []) is gives 4
    ∷ rank_says Allowed (1 ∷ 1 ∷ []) is gives 2
    -- 4. Allowed, k = 2, r = 3: n = 3 gives (0,2); n = 2 gives refusal 3
    ∷ unrank_says Allowed 3 2 3 2 is gives (0 ∷ 2 ∷ [])
    ∷ unrank_over_says Allowed 3 2 3 is gives (term Allowed (0 ∷ 2 ∷ []))
    ∷ unrank_says Allowed 2 2 3 2 is refuses 3
    ∷ unrank_over_says Allowed 2 2 3 is refuses 3
    -- 5. Forbidden: successor of bits 3 is 5; of {62} is {63}; of {63} and 0, refusal 4
    ∷ successor_says (bits Forbidden 3) is gives (bits Forbidden 5)
    ∷ successor_says (set_of (62 ∷ [])) is gives (set_of (63 ∷ []))
    ∷ successor_says (set_of (63 ∷ [])) is refuses 4
    ∷ successor_says (bits Forbidden 0) is refuses 4
    -- 6. merge Forbidden (1),(0): minus, (0,1); Allowed (0,2),(2): plus, bits 25
    ∷ merge_says (set_of (1 ∷ [])) (set_of (0 ∷ [])) is gives (signed Minus (set_of (0 ∷ 1 ∷ [])))
    ∷ merge_says (term Allowed (0 ∷ 2 ∷ [])) (term Allowed (2 ∷ [])) is gives (signed Plus (bits Allowed 25))
    -- 7. delete position 1 of Allowed bits 22: plus, symbol 1, bits 10; position 2 of Forbidden {0,2,63}: plus, 63, bits 5
    ∷ delete_says (bits Allowed 22) 1 is gives (removed Plus 1 (bits Allowed 10))
    ∷ delete_says (set_of (0 ∷ 2 ∷ 63 ∷ [])) 2 is gives (removed Plus 63 (bits Forbidden 5))
    -- 8. complement of {0,2} in 4: minus, {1,3}
    ∷ complement_says (set_of (0 ∷ 2 ∷ [])) 4 is gives (signed Minus (index_of Forbidden 4 (1 ∷ 3 ∷ [])))
    -- 9. permutation ranks: (2,1,0) 0; (0,2,1) 3; (0,1,2) 5; empty 0
    ∷ arrangement_rank_says (record_of (2 ∷ 1 ∷ 0 ∷ [])) is gives 0
    ∷ arrangement_rank_says (record_of (0 ∷ 2 ∷ 1 ∷ [])) is gives 3
    ∷ arrangement_rank_says (record_of (0 ∷ 1 ∷ 2 ∷ [])) is gives 5
    ∷ arrangement_rank_says (record_of []) is gives 0
    -- 10. radices (2,3,4), digits (1,2,3): 23 of 24; strides 1,2,6
    ∷ linearize_says (2 ∷ 3 ∷ 4 ∷ []) (1 ∷ 2 ∷ 3 ∷ []) is gives 23
    ∷ shape_count_says (2 ∷ 3 ∷ 4 ∷ []) is gives 24
    ∷ strides_says (2 ∷ 3 ∷ 4 ∷ []) 3 is gives (1 ∷ 2 ∷ 6 ∷ [])
    -- 11. radix 3 symbols (2,0,1): rank 11; delete position 1: symbol 0, rank 5
    ∷ from_symbols_says 3 (2 ∷ 0 ∷ 1 ∷ []) is gives (digits 3 3 11)
    ∷ digit_delete_says (digits 3 3 11) 1 is gives (taken_out 0 (digits 3 2 5))
    -- 12. corner {1,2} of radices (2^63,1,1): refusal 9
    ∷ corner_says (2 ^ 63 ∷ 1 ∷ 1 ∷ []) (bits_of (1 ∷ 2 ∷ [])) is refuses 9
    ∷ []
