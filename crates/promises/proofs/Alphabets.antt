-- Demand 3 for terms: an old calculator that knows n symbols meets a table made over m of them, n at most m. For either family, a degree up to 64,
-- m's shifted alphabet at most 64, any rank r and room for the word. Assumes nothing.
--   narrower, narrow, fewer    a smaller alphabet has a smaller shifted alphabet, so it is not too wide where the larger one is not, and has no more words
--   narrow-answers-exactly-when-wide-word-is-below    unranking r over n succeeds exactly when unranking over m gives a word with every symbol below n
--   narrow-and-wide-words-agree    and the words are then equal
--   where-only-wide-answers-narrow-says-no-such-rank    where only m succeeds, n answers 3
--   where-wide-word-is-not-below-narrow-says-no-such-rank    the same, by the word that m gives
--   narrow-walk-is-the-start-of-wide-walk    both walks start; that over n gives the first words of that over m, then ends
use Rattle.std.specs.Prelude.{Some, None}
use mathlib.Core.Path.{◌≡◌, refl, sym, ap, subst, ◌∙◌}
use mathlib.Core.Logic.{◌↔◌}
use mathlib.Core.List.{List, [], ◌∷◌}
use Prim.Native.Nat.{ℕ, zero, suc, ◌+◌, ◌≤◌, ◌<◌, zero-le}
use native.Mathlib.Nat.{le_trans, not-suc-le-zero, le_of_suc-le-suc, zero-add, lt_of_not-le, lt_of_lt_of_le}
use native.Mathlib.Decide.{dec_le}
use native.Mathlib.Omega.{arith}
use lib.Dec.{eqb}
use lib.ListN.{take}
use Rattle.pascal.proofs.Choose.{choose_grows}
use Rattle.words.specs.declared.Family.{Family}
use Rattle.words.specs.declared.Family.TheVariants.{Forbidden, Allowed}
use Rattle.words.specs.Pick.{pick}
use Rattle.words.specs.Word.{Below, shifted_alphabet, count}
use Rattle.words.specs.Unrank.{unrank_of}
use Rattle.words.specs.Next.{first}
use Rattle.words.proofs.Unrank.{below_n_exactly_when_rank_below_count}
use Rattle.answers.specs.Says.{refuses, gives, and_then}
use Rattle.answers.specs.Terms.{index_of}
use Rattle.monotone_walk.specs.declared.Walk.{Walk}
use Rattle.monotone_count.specs.Rules.{count_says, walk_says}
use Rattle.monotone_unrank.specs.Rules.{unrank_says}
use Rattle.monotone_count.proofs.Rules.{Counted, count_given, count_gives}
use Rattle.monotone_unrank.proofs.Rules.{Unranked, unrank_given, unrank_gives, unrank_none}
use Rattle.promises.specs.Listing.{listing}
use Rattle.promises.proofs.From.{from, take_from, take_either_way}
use Rattle.promises.proofs.Walks.{Standing, walk_stands, walk_lists_by_rank}

-- a smaller alphabet has a smaller shifted alphabet
pub narrower : (F : Family) (n m k : ℕ) → n ≤ m → shifted_alphabet F n k ≤ shifted_alphabet F m k
narrower Forbidden n m k h = h
narrower Allowed n m zero h = h
narrower Allowed n m (suc k) h = omega arith

-- so it is not too wide where the larger one is not, and has no more words
pub narrow : (F : Family) (n m k : ℕ) → n ≤ m → shifted_alphabet F m k ≤ 64 → shifted_alphabet F n k ≤ 64
narrow F n m k h width = le_trans (narrower F n m k h) width

pub fewer : (F : Family) (n m k : ℕ) → n ≤ m → count F n k ≤ count F m k
fewer F n m k h = choose_grows k (narrower F n m k h)

module _ (F : Family) (n m k : ℕ) (degree : k ≤ 64) (smaller : n ≤ m) (width : shifted_alphabet F m k ≤ 64) where
  module _ (r room : ℕ) (fits : k ≤ room) where
    pub narrow-answers-exactly-when-wide-word-is-below :
        ((w : List ℕ) × (unrank_says F n k r room ≡ gives w)) ↔ ((w : List ℕ) × (unrank_says F m k r room ≡ gives w) × Below n w)
    narrow-answers-exactly-when-wide-word-is-below = (to, back)
      where
        to : (w : List ℕ) × (unrank_says F n k r room ≡ gives w) → (w : List ℕ) × (unrank_says F m k r room ≡ gives w) × Below n w
        to t = on (unrank_given F n k r room t.0 t.1).0
          where
            on : Unranked F n k r t.0 → (w : List ℕ) × (unrank_says F m k r room ≡ gives w) × Below n w
            on u =
                let b : r < count F m k = lt_of_lt_of_le u.below (fewer F n m k smaller) in
                (unrank_of F k r, unrank_gives F m k r room degree width b fits, (below_n_exactly_when_rank_below_count F n m k r b).1 u.below)

        back : (w : List ℕ) × (unrank_says F m k r room ≡ gives w) × Below n w → (w : List ℕ) × (unrank_says F n k r room ≡ gives w)
        back t = on (unrank_given F m k r room t.0 t.1).0
          where
            on : Unranked F m k r t.0 → (w : List ℕ) × (unrank_says F n k r room ≡ gives w)
            on u = (
              unrank_of F k r,
              unrank_gives F n k r room degree (narrow F n m k smaller width) ((below_n_exactly_when_rank_below_count F n m k r u.below).0 (subst (Below n) u.is t.2)) fits,
            )

    pub narrow-and-wide-words-agree : (u v : List ℕ) → unrank_says F n k r room ≡ gives u → unrank_says F m k r room ≡ gives v → u ≡ v
    narrow-and-wide-words-agree u v e f = (unrank_given F n k r room u e).0.is ∙ sym (unrank_given F m k r room v f).0.is

    pub where-wide-word-is-not-below-narrow-says-no-such-rank : (w : List ℕ) → unrank_says F m k r room ≡ gives w → (Below n w → ⊥) → unrank_says F n k r room ≡ refuses 3
    where-wide-word-is-not-below-narrow-says-no-such-rank w e out = on (unrank_given F m k r room w e).0 (dec_le (count F n k) r)
      where
        on : Unranked F m k r w → Dec (count F n k ≤ r) → unrank_says F n k r room ≡ refuses 3
        on u (yes l) = unrank_none F n k r room degree (narrow F n m k smaller width) l
        on u (no l) =
            absurd (out (subst (Below n) (sym u.is) ((below_n_exactly_when_rank_below_count F n m k r u.below).1 (lt_of_not-le l))))

    pub where-only-wide-answers-narrow-says-no-such-rank : (w : List ℕ) → unrank_says F m k r room ≡ gives w
        → ((u : List ℕ) → unrank_says F n k r room ≡ gives u → ⊥) → unrank_says F n k r room ≡ refuses 3
    where-only-wide-answers-narrow-says-no-such-rank w e none =
        where-wide-word-is-not-below-narrow-says-no-such-rank w e
        (λ b. let t = narrow-answers-exactly-when-wide-word-is-below.1 (w, e, b) in none t.0 t.1)

  starts : (a : ℕ) → shifted_alphabet F a k ≤ 64 → (s : Walk) × (walk_says F a k ≡ gives s)
  starts a h = (begun (count F a k), ap (λ s. and_then s (λ c. gives (begun c))) (count_gives F a k degree h))
    where
      begun : ℕ → Walk
      begun c = record { current = pick (eqb c 0) None (Some (index_of F a (first F k))); remaining = c }

  -- the walk over n goes through the first words of the walk over m, however many steps d are asked for, and then ends
  prefix : (s t : Walk) (d : ℕ) → walk_says F n k ≡ gives s → walk_says F m k ≡ gives t → listing d s ≡ take (count F n k) (listing d t)
  prefix s t d e f =
      let a : count_says F n k ≡ gives (count F n k) = count_gives F n k degree (narrow F n m k smaller width) in
      let b : count_says F m k ≡ gives (count F m k) = count_gives F m k degree width in
      let p : Standing F n k (count F n k) 0 s = walk_stands F n k (count F n k) s a e in
      let q : Standing F m k (count F m k) 0 t = walk_stands F m k (count F m k) t b f in
      walk_lists_by_rank F n k (count F n k) d 0 s (count_given F n k (count F n k) a) p
      ∙ ap (λ (c : ℕ). take d (from (unrank_of F k) 0 c)) (sym (zero-add s.remaining) ∙ p.left)
      ∙ ap (take d) (sym (take_from (unrank_of F k) 0 (count F n k) (count F m k) (fewer F n m k smaller)))
      ∙ take_either_way d (count F n k) (from (unrank_of F k) 0 (count F m k))
      ∙ ap (λ (c : ℕ). take (count F n k) (take d (from (unrank_of F k) 0 c))) (sym (sym (zero-add t.remaining) ∙ q.left))
      ∙ ap (take (count F n k)) (sym (walk_lists_by_rank F m k (count F m k) d 0 t (count_given F m k (count F m k) b) q))

  pub narrow-walk-is-the-start-of-wide-walk :
      (s t : Walk) × (walk_says F n k ≡ gives s) × (walk_says F m k ≡ gives t) × ((d : ℕ) → listing d s ≡ take (count F n k) (listing d t))
  narrow-walk-is-the-start-of-wide-walk =
      let a = starts n (narrow F n m k smaller width) in
      let b = starts m width in
      (a.0, b.0, a.1, b.1, λ d. prefix a.0 b.0 d a.1 b.1)
