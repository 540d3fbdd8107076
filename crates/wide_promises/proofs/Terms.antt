-- Demand 2 for wide terms, over what the calls say, wherever they answer. Assumes nothing.
--   wide_count_tells_how_many_words    the count is how many words there are
--   wide_rank_tells_how_many_earlier    the rank of a word is how many words of its family and length are earlier in colex order
--   wide_index_rank_tells_how_many_earlier    and so is the rank of an index
--   WideUnranked F n k r w, wide_unrank_given, wide_unrank_answers, wide_unrank_none    what unranking to a word gives and when, and when it is refused with 3
--   wide_unrank_gives_a_word_of_that_rank    unranking r over n gives a word over n, and ranking it gives r
--   wide_unrank_returns_a_ranked_word    ranking a word over n and unranking gives the word back
--   WideSucceeds x y, wide_successor_given    what an index with a successor has
--   wide_successor_is_later, nothing_between_wide_index_and_successor    the successor is the next word
--   wide_successor_refuses_exactly_at_the_last    4 exactly if no word of that family and degree whose shifted symbols are below 128 is later
use mathlib.Core.Path.{◌≡◌, refl, sym, ap, ap₂, subst, ◌∙◌}
use mathlib.Core.Bool.{Bool, true, false}
use mathlib.Core.Logic.{◌↔◌, ◌⊎◌, inl, inr}
use mathlib.Core.List.{List, []}
use Prim.Native.Nat.{ℕ, ◌^◌, ◌≤◌, ◌<◌}
use native.Mathlib.Nat.{lt_of_not-le, not-le_of_lt}
use native.Mathlib.Omega.{arith}
use borrow.Author.Tests.{eqb-true, eqb-false, ltb-false, leb-false, leb-true, le-ltb, lt-leb, le-leb}
use lib.Dec.{leb, ltb, eqb}
use lib.ListN.{length}
use Rattle.words.specs.declared.Family.{Family}
use Rattle.words.specs.declared.Family.TheVariants.{Forbidden}
use Rattle.words.specs.Word.{Monotone, Below, Word, shifted, shifted_alphabet, count}
use Rattle.words.specs.Colex.{ColexLt}
use Rattle.words.specs.HowMany.{HowMany}
use Rattle.words.specs.Rank.{rank_of}
use Rattle.words.specs.Unrank.{unrank_of}
use Rattle.words.specs.Next.{next}
use Rattle.words.specs.Bits.{bits_of}
use Rattle.words.proofs.Bits.{bits_fit, below_of_bits}
use Rattle.words.proofs.Colex.{from_colex}
use Rattle.words.proofs.Rank.{rank_rises, rank_below_count}
use Rattle.words.proofs.Unrank.{unrank_is_a_word, rank_of_unrank, unrank_of_rank, word_by_rank}
use Rattle.words.proofs.Shifted.{shifted-monotone, shifted_long, rank-shifted}
use Rattle.words.proofs.Counted.{count_is_how_many_words, rank_is_how_many_earlier}
use Rattle.words.proofs.Next.{next_long, next_monotone, next_rank, next_is_later, nothing_between_word_and_next}
use Rattle.answers.specs.Says.{Says, refuses_with, refuses, gives, refused_if, and_then}
use Rattle.answers.proofs.Says.{gives_same, gives_no_refusal, passed, stopped, then_gave}
use Rattle.widths.specs.Rules.{word_in, held_says, next_bits, successor_in}
use Rattle.widths.proofs.Terms.{word_in_monotone}
use Rattle.widths.proofs.Counting.{CountedIn, held_gives, held_given}
use Rattle.widths.proofs.Checking.{RankedIn, checked_in_given, checked_in_gives, word_ranked_in}
use Rattle.wide.specs.declared.Wide.{Wide}
use Rattle.wide.specs.Answers.{whole_of, wide_of}
use Rattle.wide.specs.Rules.{wide_count_says, wide_rank_says, wide_rank_of_says, wide_unrank_says, wide_successor_says}
use Rattle.wide.proofs.Counting.{wide_count_given, wide_count_gives}
use Rattle.wide_unrank.proofs.Passing.{word_of_wide}

-- ---- the count

pub wide_count_tells_how_many_words : (F : Family) (n k c : ℕ) → wide_count_says F n k ≡ gives c → HowMany (Word F n k) c
wide_count_tells_how_many_words F n k c e = subst (HowMany (Word F n k)) (sym (wide_count_given F n k c e).0.is) (count_is_how_many_words F n k)

-- ---- the rank

pub wide_rank_tells_how_many_earlier : (F : Family) (u : List ℕ) (r : ℕ) → wide_rank_says F u ≡ gives r → HowMany (λ v. Monotone F v × ColexLt v u) r
wide_rank_tells_how_many_earlier F u r e = go (checked_in_given 127 F u (held_says (rank_of F u)) r e)
  where
    go : RankedIn 127 F u × (held_says (rank_of F u) ≡ gives r) → HowMany (λ v. Monotone F v × ColexLt v u) r
    go p = subst (HowMany (λ v. Monotone F v × ColexLt v u)) (held_given (rank_of F u) r p.1).1 (rank_is_how_many_earlier F u p.0.monotone)

pub wide_index_rank_tells_how_many_earlier : (x : Wide) (r : ℕ) → wide_rank_of_says x ≡ gives r
    → HowMany (λ v. Monotone x.family v × ColexLt v (word_in x.family (whole_of x))) r
wide_index_rank_tells_how_many_earlier x r e =
    subst (HowMany (λ v. Monotone x.family v × ColexLt v (word_in x.family (whole_of x)))) (held_given (rank_of x.family (word_in x.family (whole_of x))) r e).1
    (rank_is_how_many_earlier x.family (word_in x.family (whole_of x)) (word_in_monotone x.family (whole_of x)))

-- ---- unranking

pub record WideUnranked (F : Family) (n k r : ℕ) (w : List ℕ) : Type 0 where
  pub counted : CountedIn 128 F n k (count F n k)
  pub held : count F n k < 2 ^ 64
  pub below : r < count F n k
  pub is : w ≡ unrank_of F k r

pub wide_unrank_given : (F : Family) (n k r room : ℕ) (w : List ℕ) → wide_unrank_says F n k r room ≡ gives w → WideUnranked F n k r w × (k ≤ room)
wide_unrank_given F n k r room w e = go (then_gave (wide_count_says F n k) (λ c. refused_if (leb c r) 3 (refused_if (ltb room k) 8 (gives (unrank_of F k r)))) w e)
  where
    go : (c : ℕ) × (wide_count_says F n k ≡ gives c) × (refused_if (leb c r) 3 (refused_if (ltb room k) 8 (gives (unrank_of F k r))) ≡ gives w)
        → WideUnranked F n k r w × (k ≤ room)
    go t = on (wide_count_given F n k t.0 t.1) (passed (leb t.0 r) 3 (refused_if (ltb room k) 8 (gives (unrank_of F k r))) w t.2)
      where
        on : CountedIn 128 F n k t.0 × (t.0 < 2 ^ 64) → (leb t.0 r ≡ false) × (refused_if (ltb room k) 8 (gives (unrank_of F k r)) ≡ gives w) → WideUnranked F n k r w × (k ≤ room)
        on d p = last (passed (ltb room k) 8 (gives (unrank_of F k r)) w p.1)
          where
            last : (ltb room k ≡ false) × (gives (unrank_of F k r) ≡ gives w) → WideUnranked F n k r w × (k ≤ room)
            last q = (
              record {
                counted = record { degree = d.0.degree; alphabet = d.0.alphabet; is = refl };
                held = omega (arith, d.0.is, d.1);
                below = omega (arith, leb-false t.0 r p.0, d.0.is);
                is = sym (gives_same (unrank_of F k r) w q.1);
              },
              ltb-false room k q.0,
            )

pub wide_unrank_answers : (F : Family) (n k r room : ℕ) → k ≤ 128 → shifted_alphabet F n k ≤ 128 → count F n k < 2 ^ 64 → r < count F n k → k ≤ room
    → wide_unrank_says F n k r room ≡ gives (unrank_of F k r)
wide_unrank_answers F n k r room h l f b m =
    ap (λ s. and_then s (λ c. refused_if (leb c r) 3 (refused_if (ltb room k) 8 (gives (unrank_of F k r))))) (wide_count_gives F n k h l f)
    ∙ simp (lt-leb (count F n k) r b, le-ltb room k m)

pub wide_unrank_none : (F : Family) (n k r room : ℕ) → k ≤ 128 → shifted_alphabet F n k ≤ 128 → count F n k < 2 ^ 64 → count F n k ≤ r → wide_unrank_says F n k r room ≡ refuses 3
wide_unrank_none F n k r room h l f b =
    ap (λ s. and_then s (λ c. refused_if (leb c r) 3 (refused_if (ltb room k) 8 (gives (unrank_of F k r))))) (wide_count_gives F n k h l f) ∙ simp (le-leb (count F n k) r b)

pub wide_unrank_gives_a_word_of_that_rank : (F : Family) (n k r room : ℕ) (w : List ℕ) → wide_unrank_says F n k r room ≡ gives w → Word F n k w × (wide_rank_says F w ≡ gives r)
wide_unrank_gives_a_word_of_that_rank F n k r room w e = go (wide_unrank_given F n k r room w e).0
  where
    go : WideUnranked F n k r w → Word F n k w × (wide_rank_says F w ≡ gives r)
    go u =
        let h : Word F n k w = subst (Word F n k) (sym u.is) (unrank_is_a_word F n k r u.below) in
        let s : rank_of F w ≡ r = ap (rank_of F) u.is ∙ rank_of_unrank F n k r u.below in (
          h,
          checked_in_gives 127 F w (held_says (rank_of F w)) (word_ranked_in 127 F n k w h u.counted.degree u.counted.alphabet)
              ∙ held_gives (rank_of F w) (omega (arith, s, u.below, u.held)) ∙ ap gives s,
        )

pub wide_unrank_returns_a_ranked_word : (F : Family) (n r room : ℕ) (w : List ℕ) → wide_rank_says F w ≡ gives r → Below n w → shifted_alphabet F n (length w) ≤ 128
    → count F n (length w) < 2 ^ 64 → length w ≤ room → wide_unrank_says F n (length w) r room ≡ gives w
wide_unrank_returns_a_ranked_word F n r room w e b l f h = go (checked_in_given 127 F w (held_says (rank_of F w)) r e)
  where
    go : RankedIn 127 F w × (held_says (rank_of F w) ≡ gives r) → wide_unrank_says F n (length w) r room ≡ gives w
    go p =
        let s : rank_of F w ≡ r = (held_given (rank_of F w) r p.1).1 in
        wide_unrank_answers F n (length w) r room p.0.short l f
        (subst (λ (j : ℕ). j < count F n (length w)) s (rank_below_count F n (length w) w (record { long = refl; monotone = p.0.monotone; below = b }))) h
        ∙ ap gives (ap (unrank_of F (length w)) (sym s) ∙ unrank_of_rank F w p.0.monotone)

-- ---- the successor

pub record WideSucceeds (x y : Wide) : Type 0 where
  pub some : 0 < length (word_in x.family (whole_of x))
  pub fits : next_bits x.family (whole_of x) < 2 ^ 128
  pub is : wide_of x.family (next_bits x.family (whole_of x)) ≡ y

not_none : (n : ℕ) → (n ≡ 0 → ⊥) → 0 < n
not_none n h = lt_of_not-le (λ l. h (omega arith))

pub wide_successor_given : (x y : Wide) → wide_successor_says x ≡ gives y → WideSucceeds x y
wide_successor_given x y e = go (then_gave (successor_in 128 x.family (whole_of x)) (λ a. gives (wide_of x.family a)) y e)
  where
    up : ℕ
    up = next_bits x.family (whole_of x)

    go : (a : ℕ) × (successor_in 128 x.family (whole_of x) ≡ gives a) × (gives (wide_of x.family a) ≡ gives y) → WideSucceeds x y
    go t =
        let p = passed (eqb (length (word_in x.family (whole_of x))) 0) 4 (refused_if (leb (2 ^ 128) up) 4 (gives up)) t.0 t.1 in
        let q = passed (leb (2 ^ 128) up) 4 (gives up) t.0 p.1 in
        record {
          some = not_none (length (word_in x.family (whole_of x))) (eqb-false (length (word_in x.family (whole_of x))) 0 p.0);
          fits = leb-false (2 ^ 128) up q.0;
          is = ap (wide_of x.family) (gives_same up t.0 q.1) ∙ gives_same (wide_of x.family t.0) y t.2;
        }

next_wide_word : (x y : Wide) → WideSucceeds x y → word_in x.family (whole_of y) ≡ next x.family (word_in x.family (whole_of x))
next_wide_word x y s =
    ap (λ (z : Wide). word_in x.family (whole_of z)) (sym s.is)
    ∙ word_of_wide x.family (next x.family (word_in x.family (whole_of x))) (next_monotone x.family (word_in x.family (whole_of x)) (word_in_monotone x.family (whole_of x)))

pub wide_successor_is_later : (x y : Wide) → wide_successor_says x ≡ gives y → (y.family ≡ x.family) × ColexLt (word_in x.family (whole_of x)) (word_in x.family (whole_of y))
wide_successor_is_later x y e =
    let s : WideSucceeds x y = wide_successor_given x y e in (
      ap (λ (z : Wide). z.family) (sym s.is),
      subst (ColexLt (word_in x.family (whole_of x))) (sym (next_wide_word x y s)) (next_is_later x.family (word_in x.family (whole_of x)) s.some (word_in_monotone x.family (whole_of x))),
    )

pub nothing_between_wide_index_and_successor : (x y : Wide) (w : List ℕ) → wide_successor_says x ≡ gives y → Monotone x.family w
    → ColexLt (word_in x.family (whole_of x)) w → ColexLt w (word_in x.family (whole_of y)) → ⊥
nothing_between_wide_index_and_successor x y w e m a b =
    let s : WideSucceeds x y = wide_successor_given x y e in
    nothing_between_word_and_next x.family (word_in x.family (whole_of x)) w s.some (word_in_monotone x.family (whole_of x)) m a (subst (ColexLt w) (next_wide_word x y s) b)

-- a word of the same length whose shifted symbols are below w
pub record WordIn (w : ℕ) (F : Family) (k : ℕ) (u : List ℕ) : Type 0 where
  pub long : length u ≡ k
  pub monotone : Monotone F u
  pub low : Below w (shifted F u)

-- a later word whose shifted symbols are below w leaves room for the next one
next_fits : (w : ℕ) (F : Family) (u v : List ℕ) → Monotone F u → WordIn w F (length u) v → ColexLt u v → bits_of (shifted F (next F u)) < 2 ^ w
next_fits w F u v m h c =
    let some : 0 < length u = omega (arith, c.within) in
    let k : ℕ = length u in
    let n : List ℕ = shifted F (next F u) in
    let below : rank_of F v < count Forbidden w k =
    subst (λ (r : ℕ). r < count Forbidden w k) (sym (rank-shifted F v))
    (rank_below_count Forbidden w k (shifted F v) (record { long = shifted_long F v ∙ h.long; monotone = (shifted-monotone F v).0 h.monotone; below = h.low })) in
    bits_fit w n ((shifted-monotone F (next F u)).0 (next_monotone F u m))
    (word_by_rank Forbidden w k n (shifted_long F (next F u) ∙ next_long F u) ((shifted-monotone F (next F u)).0 (next_monotone F u m))
    (omega (arith, rank-shifted F (next F u), next_rank F u some m, rank_rises F u v m (from_colex u v c), below))).below

-- over any width: 4 exactly at the last
successor_ends_exactly : (w : ℕ) (F : Family) (a : ℕ)
    → (successor_in w F a ≡ refuses 4) ↔ ((v : List ℕ) → WordIn w F (length (word_in F a)) v → ColexLt (word_in F a) v → ⊥)
successor_ends_exactly w F a = (to, λ none. back none (eqb (length u) 0) refl (leb (2 ^ w) up) refl)
  where
    u : List ℕ
    u = word_in F a

    up : ℕ
    up = next_bits F a

    m : Monotone F u
    m = word_in_monotone F a

    on : (v : List ℕ) → WordIn w F (length u) v → ColexLt u v → ((leb (2 ^ w) up ≡ true) × (◌≡◌ {A = ℕ} 4 4)) ⊎ ((leb (2 ^ w) up ≡ false) × (gives up ≡ refuses 4)) → ⊥
    on v h c (inl q) = not-le_of_lt (next_fits w F u v m h c) (leb-true (2 ^ w) up q.0)
    on v h c (inr q) = gives_no_refusal up 4 q.1

    go : (v : List ℕ) → WordIn w F (length u) v → ColexLt u v
        → ((eqb (length u) 0 ≡ true) × (◌≡◌ {A = ℕ} 4 4)) ⊎ ((eqb (length u) 0 ≡ false) × (refused_if (leb (2 ^ w) up) 4 (gives up) ≡ refuses 4)) → ⊥
    go v h c (inl p) = omega (arith, eqb-true (length u) 0 p.0, c.within)
    go v h c (inr p) = on v h c (stopped (leb (2 ^ w) up) 4 (gives up) 4 p.1)

    to : successor_in w F a ≡ refuses 4 → (v : List ℕ) → WordIn w F (length u) v → ColexLt u v → ⊥
    to e v h c = go v h c (stopped (eqb (length u) 0) 4 (refused_if (leb (2 ^ w) up) 4 (gives up)) 4 e)

    back : ((v : List ℕ) → WordIn w F (length u) v → ColexLt u v → ⊥) → (s : Bool) → eqb (length u) 0 ≡ s → (t : Bool) → leb (2 ^ w) up ≡ t
        → refused_if s 4 (refused_if t 4 (gives up)) ≡ refuses 4
    back none true p t q = refl
    back none false p true q = refl
    back none false p false q =
        absurd
        (none (next F u)
        (record { long = next_long F u; monotone = next_monotone F u m; low = below_of_bits w (shifted F (next F u)) (leb-false (2 ^ w) up q) })
        (next_is_later F u (not_none (length u) (eqb-false (length u) 0 p)) m))

pub wide_successor_refuses_exactly_at_the_last : (x : Wide)
    → (wide_successor_says x ≡ refuses 4) ↔ ((v : List ℕ) → WordIn 128 x.family (length (word_in x.family (whole_of x))) v → ColexLt (word_in x.family (whole_of x)) v → ⊥)
wide_successor_refuses_exactly_at_the_last x = (
  λ e. (successor_ends_exactly 128 x.family (whole_of x)).0 (refused (successor_in 128 x.family (whole_of x)) e),
  λ none. ap (λ s. and_then s (λ a. gives (wide_of x.family a))) ((successor_ends_exactly 128 x.family (whole_of x)).1 none),
)
  where
    refused : (s : Says ℕ) → and_then s (λ a. gives (wide_of x.family a)) ≡ refuses 4 → s ≡ refuses 4
    refused (refuses_with d p) e =
        let h : d ≡ 4 = cc in
        let q : p ≡ [] = cc in
        ap₂ (λ (i : ℕ) (l : List ℕ). refuses_with i l) h q
    refused (gives a) e = absurd (gives_no_refusal (wide_of x.family a) 4 e)
