-- Demands 2 and 3 for unranking to an index, over what the calls say. Assumes nothing.
--   widest_has_64    the alphabet that unranking takes where none is named has the shifted alphabet 64
--   IndexOfRank F n k r x    x is the index, over n, of the word of k symbols below n that has the rank r
--   unrank_over_gives_an_index_of_that_rank    what unranking over n gives is that index
--   unrank_any_gives_an_index_of_that_rank    where no alphabet is named, over the widest
--   narrow-index-exactly-when-wide-word-is-below    for n at most m: unranking over n succeeds exactly when over m it gives an index with every symbol below n
--   narrow-and-wide-indices-agree    the words and the bits are then equal
--   where-only-wide-index-answers-narrow-says-no-such-rank    where only m succeeds, n answers 3
use mathlib.Core.Path.{◌≡◌, refl, sym, ap, subst, ◌∙◌}
use mathlib.Core.Bool.{Bool, true, false}
use mathlib.Core.Logic.{◌↔◌}
use mathlib.Core.List.{List}
use Prim.Native.Nat.{ℕ, zero, suc, ◌-◌, ◌+◌, ◌≤◌, ◌<◌}
use native.Mathlib.Nat.{lt_of_not-le, lt_of_lt_of_le}
use native.Mathlib.Decide.{dec_le}
use native.Mathlib.Omega.{arith}
use borrow.Author.Tests.{leb-false, le-ltb, le-leb, lt-leb}
use lib.Dec.{leb, ltb}
use lib.ListN.{length}
use Rattle.words.specs.declared.Family.{Family}
use Rattle.words.specs.declared.Family.TheVariants.{Forbidden, Allowed}
use Rattle.words.specs.Word.{Below, Word, shifted_alphabet, count}
use Rattle.words.specs.Rank.{rank_of}
use Rattle.words.specs.Unrank.{unrank_of}
use Rattle.words.proofs.Unrank.{unrank_is_a_word, rank_of_unrank, unrank_monotone, below_n_exactly_when_rank_below_count}
use Rattle.answers.specs.declared.Index.{Index}
use Rattle.answers.specs.Says.{Says, refuses, gives, refused_if, and_then}
use Rattle.answers.specs.Terms.{index_of, word_of}
use Rattle.answers.proofs.Says.{gives_same, passed, then_gave}
use Rattle.answers.proofs.Terms.{word_of_index}
use Rattle.monotone_count.specs.Rules.{count_says}
use Rattle.monotone_unrank.specs.Rules.{unrank_over_says, widest, unrank_any_says}
use Rattle.monotone_count.proofs.Rules.{Counted, count_given, count_gives}
use Rattle.promises.proofs.Alphabets.{narrow, fewer}

-- ---- the alphabet that none has named

pub widest_has_64 : (F : Family) (k : ℕ) → k ≤ 64 → shifted_alphabet F (widest F k) k ≡ 64
widest_has_64 Forbidden k h = refl
widest_has_64 Allowed zero h = refl
widest_has_64 Allowed (suc k) h = omega arith

-- ---- the index of a rank

pub record IndexOfRank (F : Family) (n k r : ℕ) (x : Index) : Type 0 where
  pub is : index_of F n (unrank_of F k r) ≡ x
  pub spells : word_of x ≡ unrank_of F k r
  pub word : Word F n k (word_of x)
  pub rank : rank_of F (word_of x) ≡ r
  pub counted : Counted F n k (count F n k)
  pub below : r < count F n k

pub unrank_over_gives_an_index_of_that_rank : (F : Family) (n k r : ℕ) (x : Index) → unrank_over_says F n k r ≡ gives x → IndexOfRank F n k r x
unrank_over_gives_an_index_of_that_rank F n k r x e = go (then_gave (count_says F n k) (λ c. refused_if (leb c r) 3 (gives (index_of F n (unrank_of F k r)))) x e)
  where
    go : (c : ℕ) × (count_says F n k ≡ gives c) × (refused_if (leb c r) 3 (gives (index_of F n (unrank_of F k r))) ≡ gives x) → IndexOfRank F n k r x
    go t = on (count_given F n k t.0 t.1) (passed (leb t.0 r) 3 (gives (index_of F n (unrank_of F k r))) x t.2)
      where
        on : Counted F n k t.0 → (leb t.0 r ≡ false) × (gives (index_of F n (unrank_of F k r)) ≡ gives x) → IndexOfRank F n k r x
        on d p =
            let b : r < count F n k = omega (arith, leb-false t.0 r p.0, d.is) in
            let i : index_of F n (unrank_of F k r) ≡ x = gives_same (index_of F n (unrank_of F k r)) x p.1 in
            let w : word_of x ≡ unrank_of F k r = ap word_of (sym i) ∙ word_of_index F n (unrank_of F k r) (unrank_monotone F k r) in
            record {
              is = i;
              spells = w;
              word = subst (Word F n k) (sym w) (unrank_is_a_word F n k r b);
              rank = ap (rank_of F) w ∙ rank_of_unrank F n k r b;
              counted = record { degree = d.degree; alphabet = d.alphabet; is = refl };
              below = b;
            }

pub unrank_any_gives_an_index_of_that_rank : (F : Family) (k r : ℕ) (x : Index) → unrank_any_says F k r ≡ gives x → IndexOfRank F (widest F k) k r x
unrank_any_gives_an_index_of_that_rank F k r x e =
    unrank_over_gives_an_index_of_that_rank F (widest F k) k r x (passed (ltb 64 k) 1 (unrank_over_says F (widest F k) k r) x e).1

over_gives : (F : Family) (n k r : ℕ) → k ≤ 64 → shifted_alphabet F n k ≤ 64 → r < count F n k → unrank_over_says F n k r ≡ gives (index_of F n (unrank_of F k r))
over_gives F n k r d l b = simp (count_gives F n k d l, lt-leb (count F n k) r b)

over_none : (F : Family) (n k r : ℕ) → k ≤ 64 → shifted_alphabet F n k ≤ 64 → count F n k ≤ r → unrank_over_says F n k r ≡ refuses 3
over_none F n k r d l b = simp (count_gives F n k d l, le-leb (count F n k) r b)

-- ---- two alphabets

module _ (F : Family) (n m k : ℕ) (degree : k ≤ 64) (smaller : n ≤ m) (width : shifted_alphabet F m k ≤ 64) (r : ℕ) where
  pub narrow-index-exactly-when-wide-word-is-below :
      ((x : Index) × (unrank_over_says F n k r ≡ gives x)) ↔ ((y : Index) × (unrank_over_says F m k r ≡ gives y) × Below n (word_of y))
  narrow-index-exactly-when-wide-word-is-below = (to, back)
    where
      to : (x : Index) × (unrank_over_says F n k r ≡ gives x) → (y : Index) × (unrank_over_says F m k r ≡ gives y) × Below n (word_of y)
      to t =
          let i = unrank_over_gives_an_index_of_that_rank F n k r t.0 t.1 in
          let b : r < count F m k = lt_of_lt_of_le i.below (fewer F n m k smaller) in
          let s : word_of (index_of F m (unrank_of F k r)) ≡ unrank_of F k r = word_of_index F m (unrank_of F k r) (unrank_monotone F k r) in
          (index_of F m (unrank_of F k r), over_gives F m k r degree width b, subst (Below n) (sym s) ((below_n_exactly_when_rank_below_count F n m k r b).1 i.below))

      back : (y : Index) × (unrank_over_says F m k r ≡ gives y) × Below n (word_of y) → (x : Index) × (unrank_over_says F n k r ≡ gives x)
      back t =
          let i = unrank_over_gives_an_index_of_that_rank F m k r t.0 t.1 in
          (index_of F n (unrank_of F k r), over_gives F n k r degree (narrow F n m k smaller width) ((below_n_exactly_when_rank_below_count F n m k r i.below).0 (subst (Below n) i.spells t.2)))

  pub narrow-and-wide-indices-agree : (x y : Index) → unrank_over_says F n k r ≡ gives x → unrank_over_says F m k r ≡ gives y
      → (word_of x ≡ word_of y) × (x.bits ≡ y.bits)
  narrow-and-wide-indices-agree x y e f =
      let i = unrank_over_gives_an_index_of_that_rank F n k r x e in
      let j = unrank_over_gives_an_index_of_that_rank F m k r y f in
      (i.spells ∙ sym j.spells, ap (λ (z : Index). z.bits) (sym i.is) ∙ ap (λ (z : Index). z.bits) j.is)

  pub where-only-wide-index-answers-narrow-says-no-such-rank : (y : Index) → unrank_over_says F m k r ≡ gives y
      → ((x : Index) → unrank_over_says F n k r ≡ gives x → ⊥) → unrank_over_says F n k r ≡ refuses 3
  where-only-wide-index-answers-narrow-says-no-such-rank y e none = go (dec_le (count F n k) r)
    where
      go : Dec (count F n k ≤ r) → unrank_over_says F n k r ≡ refuses 3
      go (yes l) = over_none F n k r degree (narrow F n m k smaller width) l
      go (no l) = absurd (none (index_of F n (unrank_of F k r)) (over_gives F n k r degree (narrow F n m k smaller width) (lt_of_not-le l)))
