-- Demand 3 for wide terms, walks apart: an old calculator that knows n symbols meets a table made over m of them, n at most m. For either family, a degree up to 128,
-- m's shifted alphabet at most 128 and its count below 2^64 (02, §9), any rank r and room for the word. Assumes nothing.
--   fewer-symbols-answer-exactly-when-the-word-is-below    unranking r over n succeeds exactly when unranking over m gives a word with every symbol below n
--   both-alphabets-give-one-word    and the words are then equal
--   where-only-more-symbols-answer-fewer-say-no-such-rank    where only m succeeds, n answers 3
--   both-alphabets-give-one-index    a rank below the count over n gives one and the same index over n and over m
--   no-index-over-fewer-symbols    a rank that only m has is refused with 3 over n
use mathlib.Core.Path.{◌≡◌, sym, subst, ◌∙◌}
use mathlib.Core.Logic.{◌↔◌}
use mathlib.Core.List.{List}
use Prim.Native.Nat.{ℕ, ◌^◌, ◌≤◌, ◌<◌}
use native.Mathlib.Nat.{le_trans, lt_of_lt_of_le, lt_of_not-le}
use native.Mathlib.Decide.{dec_le}
use native.Mathlib.Omega.{arith}
use Rattle.words.specs.declared.Family.{Family}
use Rattle.words.specs.Word.{Below, shifted_alphabet, count}
use Rattle.words.specs.Unrank.{unrank_of}
use Rattle.words.proofs.Unrank.{below_n_exactly_when_rank_below_count}
use Rattle.answers.specs.Says.{refuses, gives}
use Rattle.wide.specs.Rules.{wide_unrank_says, wide_unrank_over_says}
use Rattle.wide.proofs.Counting.{wide_count_gives}
use Rattle.wide.proofs.Unranking.{unranked, none_such}
use Rattle.promises.proofs.Alphabets.{narrower, fewer}
use Rattle.wide_promises.proofs.Terms.{WideUnranked, wide_unrank_given, wide_unrank_answers, wide_unrank_none}

module _ (F : Family) (n m k : ℕ) (degree : k ≤ 128) (smaller : n ≤ m) (width : shifted_alphabet F m k ≤ 128) (held : count F m k < 2 ^ 64) where
  narrow-width : shifted_alphabet F n k ≤ 128
  narrow-width = le_trans (narrower F n m k smaller) width

  narrow-held : count F n k < 2 ^ 64
  narrow-held = omega (arith, fewer F n m k smaller)

  module _ (r room : ℕ) (fits : k ≤ room) where
    pub fewer-symbols-answer-exactly-when-the-word-is-below :
        ((w : List ℕ) × (wide_unrank_says F n k r room ≡ gives w)) ↔ ((w : List ℕ) × (wide_unrank_says F m k r room ≡ gives w) × Below n w)
    fewer-symbols-answer-exactly-when-the-word-is-below = (to, back)
      where
        to : (w : List ℕ) × (wide_unrank_says F n k r room ≡ gives w) → (w : List ℕ) × (wide_unrank_says F m k r room ≡ gives w) × Below n w
        to t = on (wide_unrank_given F n k r room t.0 t.1).0
          where
            on : WideUnranked F n k r t.0 → (w : List ℕ) × (wide_unrank_says F m k r room ≡ gives w) × Below n w
            on u =
                let b : r < count F m k = lt_of_lt_of_le u.below (fewer F n m k smaller) in
                (unrank_of F k r, wide_unrank_answers F m k r room degree width held b fits, (below_n_exactly_when_rank_below_count F n m k r b).1 u.below)

        back : (w : List ℕ) × (wide_unrank_says F m k r room ≡ gives w) × Below n w → (w : List ℕ) × (wide_unrank_says F n k r room ≡ gives w)
        back t = on (wide_unrank_given F m k r room t.0 t.1).0
          where
            on : WideUnranked F m k r t.0 → (w : List ℕ) × (wide_unrank_says F n k r room ≡ gives w)
            on u = (
              unrank_of F k r,
              wide_unrank_answers F n k r room degree narrow-width narrow-held ((below_n_exactly_when_rank_below_count F n m k r u.below).0 (subst (Below n) u.is t.2)) fits,
            )

    pub both-alphabets-give-one-word : (u v : List ℕ) → wide_unrank_says F n k r room ≡ gives u → wide_unrank_says F m k r room ≡ gives v → u ≡ v
    both-alphabets-give-one-word u v e f = (wide_unrank_given F n k r room u e).0.is ∙ sym (wide_unrank_given F m k r room v f).0.is

    pub where-only-more-symbols-answer-fewer-say-no-such-rank : (w : List ℕ) → wide_unrank_says F m k r room ≡ gives w
        → ((u : List ℕ) → wide_unrank_says F n k r room ≡ gives u → ⊥) → wide_unrank_says F n k r room ≡ refuses 3
    where-only-more-symbols-answer-fewer-say-no-such-rank w e none = on (dec_le (count F n k) r)
      where
        on : Dec (count F n k ≤ r) → wide_unrank_says F n k r room ≡ refuses 3
        on (yes l) = wide_unrank_none F n k r room degree narrow-width narrow-held l
        on (no l) = absurd (none (unrank_of F k r) (wide_unrank_answers F n k r room degree narrow-width narrow-held (lt_of_not-le l) fits))

  -- ---- the same for the index

  pub both-alphabets-give-one-index : (r : ℕ) → r < count F n k → wide_unrank_over_says F n k r ≡ wide_unrank_over_says F m k r
  both-alphabets-give-one-index r l =
      unranked F n k (count F n k) r (wide_count_gives F n k degree narrow-width narrow-held) l
      ∙ sym (unranked F m k (count F m k) r (wide_count_gives F m k degree width held) (lt_of_lt_of_le l (fewer F n m k smaller)))

  pub no-index-over-fewer-symbols : (r : ℕ) → count F n k ≤ r → r < count F m k → (wide_unrank_over_says F n k r ≡ refuses 3) × (Below n (unrank_of F k r) → ⊥)
  no-index-over-fewer-symbols r l b = (
    none_such F n k (count F n k) r (wide_count_gives F n k degree narrow-width narrow-held) l,
    λ f. omega (arith, (below_n_exactly_when_rank_below_count F n m k r b).0 f),
  )
