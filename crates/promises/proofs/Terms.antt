-- Demand 2 for terms, over what the calls say. Assumes nothing.
--   count_tells_how_many_words    the count is how many words there are
--   rank_tells_how_many_earlier    the rank of a word is how many words of its family and length are earlier in colex order
--   index_rank_tells_how_many_earlier    and so is the rank of an index
--   rank_is_a_sum_of_binomials    the rank is the sum of binomial(shifted symbol i, i + 1)
--   word-ranked    a word over an alphabet that keeps the width limits passes the checks of a word
--   unrank_gives_a_word_of_that_rank    unranking r over n gives a word over n, and ranking it gives r
--   unrank_returns_a_ranked_word    ranking a word over n and unranking gives the word back
--   Succeeds x y, successor_given    what an index with a successor has
--   successor_is_later, nothing_between_index_and_successor    the successor is the next word
--   successor_refuses_exactly_at_the_last    of an accepted index, 4 exactly if no word of that family and degree over its alphabet is later
--   successor_refuses_exactly_at_the_top_bits    that is so exactly if its k ones stand at the top of the digits of its shifted alphabet
--   walk_lists_the_words_in_order    a walk over n gives exactly the words over n, each once, in order, and then ends
use mathlib.Core.Path.{◌≡◌, refl, sym, ap, subst, subst₂, ◌∙◌}
use mathlib.Core.Bool.{Bool, true, false}
use mathlib.Core.Logic.{◌↔◌, ◌⊎◌, inl, inr}
use mathlib.Core.List.{List, [], ◌∷◌}
use Prim.Native.Nat.{ℕ, zero, suc, ◌+◌, ◌-◌, ◌*◌, ◌^◌, ◌≤◌, ◌<◌, zero-le}
use native.Mathlib.Nat.{suc-add, add-suc, add-zero, zero-add}
use native.Mathlib.Omega.{arith}
use borrow.Author.Tests.{eqb-true, eqb-false}
use lib.Dec.{eqb}
use lib.ListN.{length, get_or, take}
use lib.Seq.{take_all}
use Rattle.pascal.specs.Choose.{choose}
use Rattle.words.specs.declared.Family.{Family}
use Rattle.words.specs.Word.{Monotone, Below, Word, shift, shifted, unshifted, shifted_alphabet, count}
use Rattle.words.specs.Colex.{ColexLt}
use Rattle.words.specs.HowMany.{HowMany}
use Rattle.words.specs.Rank.{rank_from, rank_of}
use Rattle.words.specs.Unrank.{unrank_of}
use Rattle.words.specs.Next.{next, last}
use Rattle.words.specs.Bits.{bits_of, set_bits}
use Rattle.bits.specs.Member.{reaches}
use Rattle.bits.proofs.Member.{reaches_not}
use Rattle.words.proofs.Bits.{bits_of_set}
use Rattle.words.proofs.Ends.{last_is_a_word, last_has_nothing_after, last_bits}
use Rattle.words.proofs.Colex.{to_colex, from_colex}
use Rattle.words.proofs.Rank.{rank_rises, rank_below_count, word_short, before_of_rank}
use Rattle.words.proofs.Unrank.{unrank_long, unrank_monotone, unrank_is_a_word, rank_of_unrank, unrank_of_rank, word_by_rank}
use Rattle.words.proofs.Counted.{count_is_how_many_words, rank_is_how_many_earlier}
use Rattle.words.proofs.Next.{next_long, next_monotone, next_rank, next_is_later, nothing_between_word_and_next}
use Rattle.answers.specs.declared.Index.{Index}
use Rattle.answers.specs.Says.{refuses, gives, refused_if}
use Rattle.answers.specs.Terms.{index_of, word_of}
use Rattle.answers.proofs.Says.{gives_same, gives_no_refusal, passed, stopped}
use Rattle.answers.proofs.Terms.{word_of_index, word-monotone, shifted-word}
use Rattle.monotone_walk.specs.declared.Walk.{Walk}
use Rattle.monotone_count.specs.Rules.{count_says, walk_says}
use Rattle.monotone_rank.specs.Rules.{rank_says}
use Rattle.monotone_unrank.specs.Rules.{unrank_says}
use Rattle.monotone_walk.specs.Rules.{next_says, successor_says}
use Rattle.taking.specs.Taken.{shifted_alphabet_of, Accepted}
use Rattle.taking.proofs.Accepted.{accepted_is_a_word, taken-accepted, taken_gives}
use Rattle.monotone_count.proofs.Rules.{Counted, count_given}
use Rattle.monotone_unrank.proofs.Rules.{Unranked, unrank_given, unrank_gives}
use Rattle.widths.proofs.Checking.{word_ranked_in}
use Rattle.monotone.proofs.Rules.{Ranked, checked_given, checked_gives}
use Rattle.promises.specs.Listing.{listing, Lists, sum_below}
use Rattle.promises.proofs.Walks.{positive_of_not_zero, Standing, walk_stands, walk_lists_by_rank}
use Rattle.promises.proofs.From.{from, from_long, from_at, in_from, from_in, from_distinct}

-- ---- the count

pub count_tells_how_many_words : (F : Family) (n k c : ℕ) → count_says F n k ≡ gives c → HowMany (Word F n k) c
count_tells_how_many_words F n k c e = subst (HowMany (Word F n k)) (sym (count_given F n k c e).is) (count_is_how_many_words F n k)

-- ---- the rank

pub rank_tells_how_many_earlier : (F : Family) (w : List ℕ) (r : ℕ) → rank_says F w ≡ gives r → HowMany (λ u. Monotone F u × ColexLt u w) r
rank_tells_how_many_earlier F w r e = go (checked_given F w (rank_of F w) r e)
  where
    go : Ranked F w × (rank_of F w ≡ r) → HowMany (λ u. Monotone F u × ColexLt u w) r
    go p = subst (HowMany (λ u. Monotone F u × ColexLt u w)) p.1 (rank_is_how_many_earlier F w p.0.monotone)

pub index_rank_tells_how_many_earlier : (x : Index) → HowMany (λ u. Monotone x.family u × ColexLt u (word_of x)) (rank_of x.family (word_of x))
index_rank_tells_how_many_earlier x = rank_is_how_many_earlier x.family (word_of x) (word-monotone x)

sum_same : (n : ℕ) (f g : ℕ → ℕ) → ((i : ℕ) → f i ≡ g i) → sum_below n f ≡ sum_below n g
unfolding sum_below
sum_same zero f g h = refl
sum_same (suc n) f g h = omega (arith, h 0, sum_same n (λ i. f (suc i)) (λ i. g (suc i)) (λ i. h (suc i)))

-- the first symbol of the list stands at position j
rank_from_sum : (F : Family) (j : ℕ) (w : List ℕ) → rank_from F j w ≡ sum_below (length w) (λ i. choose (get_or w i 0 + shift F (j + i)) (suc (j + i)))
unfolding rank_from sum_below
rank_from_sum F j [] = refl
rank_from_sum F j (x ∷ xs) =
    omega (
      arith,
      rank_from_sum F (suc j) xs,
      ap (λ (p : ℕ). choose (x + shift F p) (suc p)) (add-zero j),
      sum_same (length xs) (λ i. choose (get_or xs i 0 + shift F (suc j + i)) (suc (suc j + i))) (λ i. choose (get_or xs i 0 + shift F (j + suc i)) (suc (j + suc i)))
          (λ i. ap (λ (p : ℕ). choose (get_or xs i 0 + shift F p) (suc p)) (suc-add j i ∙ sym (add-suc j i))),
    )

pub rank_is_a_sum_of_binomials : (F : Family) (w : List ℕ) → rank_of F w ≡ sum_below (length w) (λ i. choose (get_or w i 0 + shift F i) (suc i))
rank_is_a_sum_of_binomials F w =
    rank_from_sum F 0 w
    ∙ sum_same (length w) (λ i. choose (get_or w i 0 + shift F (0 + i)) (suc (0 + i))) (λ i. choose (get_or w i 0 + shift F i) (suc i))
    (λ i. ap (λ (p : ℕ). choose (get_or w i 0 + shift F p) (suc p)) (zero-add i))

-- ---- unranking

pub word-ranked : (F : Family) (n k : ℕ) (w : List ℕ) → Word F n k w → k ≤ 64 → shifted_alphabet F n k ≤ 64 → Ranked F w
word-ranked F n k w h d l = word_ranked_in 63 F n k w h d l

pub unrank_gives_a_word_of_that_rank : (F : Family) (n k r room : ℕ) (w : List ℕ) → unrank_says F n k r room ≡ gives w → Word F n k w × (rank_says F w ≡ gives r)
unrank_gives_a_word_of_that_rank F n k r room w e = go (unrank_given F n k r room w e).0
  where
    go : Unranked F n k r w → Word F n k w × (rank_says F w ≡ gives r)
    go u =
        let h : Word F n k w = subst (Word F n k) (sym u.is) (unrank_is_a_word F n k r u.below) in (
          h,
          checked_gives F w (rank_of F w) (word-ranked F n k w h u.counted.degree u.counted.alphabet)
              ∙ ap gives (ap (rank_of F) u.is ∙ rank_of_unrank F n k r u.below),
        )

pub unrank_returns_a_ranked_word : (F : Family) (n r room : ℕ) (w : List ℕ) → rank_says F w ≡ gives r → Below n w → shifted_alphabet F n (length w) ≤ 64 → length w ≤ room
    → unrank_says F n (length w) r room ≡ gives w
unrank_returns_a_ranked_word F n r room w e b l h = go (checked_given F w (rank_of F w) r e)
  where
    go : Ranked F w × (rank_of F w ≡ r) → unrank_says F n (length w) r room ≡ gives w
    go p =
        unrank_gives F n (length w) r room p.0.short l
        (subst (λ (j : ℕ). j < count F n (length w)) p.1 (rank_below_count F n (length w) w (record { long = refl; monotone = p.0.monotone; below = b }))) h
        ∙ ap gives (ap (unrank_of F (length w)) (sym p.1) ∙ unrank_of_rank F w p.0.monotone)

-- ---- the successor

pub record Succeeds (x y : Index) : Type 0 where
  pub taken : Accepted x
  pub some : 0 < length (word_of x)
  pub over : Below x.alphabet (next x.family (word_of x))
  pub is : index_of x.family x.alphabet (next x.family (word_of x)) ≡ y

pub successor_given : (x y : Index) → successor_says x ≡ gives y → Succeeds x y
successor_given x y e =
    let up : Index = index_of x.family x.alphabet (next x.family (word_of x)) in
    let a = taken_gives x (next_says x) y e in
    let p = passed (eqb (length (word_of x)) 0) 4 (refused_if (reaches x.alphabet (next x.family (word_of x))) 4 (gives up)) y a.1 in
    let q = passed (reaches x.alphabet (next x.family (word_of x))) 4 (gives up) y p.1 in
    record {
      taken = a.0;
      some = positive_of_not_zero (length (word_of x)) (eqb-false (length (word_of x)) 0 p.0);
      over = (reaches_not x.alphabet (next x.family (word_of x))).0 q.0;
      is = gives_same up y q.1;
    }

next_word : (x y : Index) → Succeeds x y → word_of y ≡ next x.family (word_of x)
next_word x y s =
    ap word_of (sym s.is) ∙ word_of_index x.family x.alphabet (next x.family (word_of x)) (next_monotone x.family (word_of x) (word-monotone x))

pub successor_is_later : (x y : Index) → successor_says x ≡ gives y → (y.family ≡ x.family) × (y.alphabet ≡ x.alphabet) × ColexLt (word_of x) (word_of y)
successor_is_later x y e =
    let s : Succeeds x y = successor_given x y e in (
      ap (λ (z : Index). z.family) (sym s.is),
      ap (λ (z : Index). z.alphabet) (sym s.is),
      subst (ColexLt (word_of x)) (sym (next_word x y s)) (next_is_later x.family (word_of x) s.some (word-monotone x)),
    )

pub nothing_between_index_and_successor : (x y : Index) (w : List ℕ) → successor_says x ≡ gives y → Monotone x.family w → ColexLt (word_of x) w → ColexLt w (word_of y) → ⊥
nothing_between_index_and_successor x y w e m a b =
    let s : Succeeds x y = successor_given x y e in
    nothing_between_word_and_next x.family (word_of x) w s.some (word-monotone x) m a (subst (ColexLt w) (next_word x y s) b)

-- if a word over n is later than the word of x, then so is the next one over n
next_over : (F : Family) (n : ℕ) (u w : List ℕ) → Monotone F u → Word F n (length u) w → ColexLt u w → Below n (next F u)
next_over F n u w m h c =
    let some : 0 < length u = omega (arith, c.within) in
    (word_by_rank F n (length u) (next F u) (next_long F u) (next_monotone F u m)
    (omega (arith, next_rank F u some m, rank_rises F u w m (from_colex u w c), rank_below_count F n (length u) w h))).below

pub successor_refuses_exactly_at_the_last : (x : Index) → Accepted x
    → (successor_says x ≡ refuses 4) ↔ ((w : List ℕ) → Word x.family x.alphabet (length (word_of x)) w → ColexLt (word_of x) w → ⊥)
successor_refuses_exactly_at_the_last x a = (to, back)
  where
    up : Index
    up = index_of x.family x.alphabet (next x.family (word_of x))

    past : Bool
    past = reaches x.alphabet (next x.family (word_of x))

    on : 0 < length (word_of x) → (w : List ℕ) → Word x.family x.alphabet (length (word_of x)) w → ColexLt (word_of x) w
        → ((past ≡ true) × (◌≡◌ {A = ℕ} 4 4)) ⊎ ((past ≡ false) × (gives up ≡ refuses 4)) → ⊥
    on h w d c (inl q) =
        let f : past ≡ false = (reaches_not x.alphabet (next x.family (word_of x))).1 (next_over x.family x.alphabet (word_of x) w (word-monotone x) d c) in
        let t : past ≡ true = q.0 in
        let z : ◌≡◌ {A = ℕ} 0 1 = cc in
        omega arith
    on h w d c (inr q) = gives_no_refusal up 4 q.1

    go : (w : List ℕ) → Word x.family x.alphabet (length (word_of x)) w → ColexLt (word_of x) w
        → ((eqb (length (word_of x)) 0 ≡ true) × (◌≡◌ {A = ℕ} 4 4)) ⊎ ((eqb (length (word_of x)) 0 ≡ false) × (refused_if past 4 (gives up) ≡ refuses 4)) → ⊥
    go w d c (inl p) = omega (arith, eqb-true (length (word_of x)) 0 p.0, c.within)
    go w d c (inr p) = on (positive_of_not_zero (length (word_of x)) (eqb-false (length (word_of x)) 0 p.0)) w d c (stopped past 4 (gives up) 4 p.1)

    to : successor_says x ≡ refuses 4 → (w : List ℕ) → Word x.family x.alphabet (length (word_of x)) w → ColexLt (word_of x) w → ⊥
    to e w d c = go w d c (stopped (eqb (length (word_of x)) 0) 4 (refused_if past 4 (gives up)) 4 (sym (taken-accepted x (next_says x) a) ∙ e))

    tests : ((w : List ℕ) → Word x.family x.alphabet (length (word_of x)) w → ColexLt (word_of x) w → ⊥)
        → (s : Bool) → eqb (length (word_of x)) 0 ≡ s → (t : Bool) → reaches x.alphabet (next x.family (word_of x)) ≡ t → refused_if s 4 (refused_if t 4 (gives up)) ≡ refuses 4
    tests none true p t q = refl
    tests none false p true q = refl
    tests none false p false q =
        absurd
        (none (next x.family (word_of x))
        (record { long = next_long x.family (word_of x); monotone = next_monotone x.family (word_of x) (word-monotone x); below = (reaches_not x.alphabet (next x.family (word_of x))).0 q })
        (next_is_later x.family (word_of x) (positive_of_not_zero (length (word_of x)) (eqb-false (length (word_of x)) 0 p)) (word-monotone x)))

    back : ((w : List ℕ) → Word x.family x.alphabet (length (word_of x)) w → ColexLt (word_of x) w → ⊥) → successor_says x ≡ refuses 4
    back none =
        taken-accepted x (next_says x) a ∙ tests none (eqb (length (word_of x)) 0) refl (reaches x.alphabet (next x.family (word_of x))) refl

-- the same as bits (02 §8): k ones at the top of a digits
pub successor_refuses_exactly_at_the_top_bits : (x : Index) → Accepted x
    → (successor_says x ≡ refuses 4) ↔ (x.bits ≡ (2 ^ length (word_of x) - 1) * 2 ^ (shifted_alphabet_of x - length (word_of x)))
successor_refuses_exactly_at_the_top_bits x a = (
  λ e. sym (same ((last_has_nothing_after F n k (word_of x) word).0 ((successor_refuses_exactly_at_the_last x a).0 e))) ∙ bits,
  λ e. (successor_refuses_exactly_at_the_last x a).1 ((last_has_nothing_after F n k (word_of x) word).1 (back (e ∙ sym bits))),
)
  where
    F : Family
    F = x.family

    n : ℕ
    n = x.alphabet

    k : ℕ
    k = length (word_of x)

    word : Word F n k (word_of x)
    word = ((accepted_is_a_word x).0 a).1

    bits : bits_of (shifted F (last F n k)) ≡ (2 ^ k - 1) * 2 ^ (shifted_alphabet_of x - k)
    bits = last_bits F n k (word_short F n k (word_of x) word)

    own : bits_of (shifted F (word_of x)) ≡ x.bits
    own = ap bits_of (shifted-word x) ∙ bits_of_set x.bits

    same : word_of x ≡ last F n k → bits_of (shifted F (last F n k)) ≡ x.bits
    same e = ap (λ (w : List ℕ). bits_of (shifted F w)) (sym e) ∙ own

    back : x.bits ≡ bits_of (shifted F (last F n k)) → word_of x ≡ last F n k
    back e =
        ap (λ (b : ℕ). unshifted F (set_bits b)) e
        ∙ word_of_index F n (last F n k) (last_is_a_word F n k (omega (arith, rank_below_count F n k (word_of x) word))).monotone

-- ---- the walk

-- the words of the ranks below the count, in the order of their ranks
ranks_list : (F : Family) (n k : ℕ) → Lists F n k (from (unrank_of F k) 0 (count F n k))
ranks_list F n k =
    record {
      sound = λ w i. found w (in_from (unrank_of F k) 0 (count F n k) w i);
      complete = λ w h. from_in (unrank_of F k) 0 (count F n k) (rank_of F w) w zero-le (below (rank_below_count F n k w h))
          (sym (subst (λ (j : ℕ). unrank_of F j (rank_of F w) ≡ w) h.long (unrank_of_rank F w h.monotone)));
      distinct = from_distinct (unrank_of F k) (rank_of F) 0 (count F n k) (λ r l. rank_of_unrank F n k r (above l));
      ordered = ordered;
    }
  where
    below : {r : ℕ} → r < count F n k → r < 0 + count F n k
    below h = omega arith

    above : {r : ℕ} → r < 0 + count F n k → r < count F n k
    above h = omega arith

    found : (w : List ℕ) → (r : ℕ) × (0 ≤ r) × (r < 0 + count F n k) × (w ≡ unrank_of F k r) → Word F n k w
    found w t = subst (Word F n k) (sym t.3) (unrank_is_a_word F n k t.0 (above t.2))

    at : (i : ℕ) → i < count F n k → get_or (from (unrank_of F k) 0 (count F n k)) i [] ≡ unrank_of F k i
    at i h = from_at (unrank_of F k) 0 (count F n k) i [] h ∙ ap (unrank_of F k) (zero-add i)

    ordered : (i j : ℕ) → i < j → j < length (from (unrank_of F k) 0 (count F n k))
        → ColexLt (get_or (from (unrank_of F k) 0 (count F n k)) i []) (get_or (from (unrank_of F k) 0 (count F n k)) j [])
    ordered i j h l =
        let b : j < count F n k = omega (arith, l, from_long (unrank_of F k) 0 (count F n k)) in
        let a : i < count F n k = omega arith in
        subst₂ ColexLt (sym (at i a)) (sym (at j b))
        (to_colex (unrank_of F k i) (unrank_of F k j)
        (before_of_rank F (unrank_of F k i) (unrank_of F k j) (unrank_monotone F k j) (unrank_long F k i ∙ sym (unrank_long F k j))
        (omega (arith, h, rank_of_unrank F n k i a, rank_of_unrank F n k j b))))

pub walk_lists_the_words_in_order : (F : Family) (n k c : ℕ) (s : Walk) (d : ℕ) → count_says F n k ≡ gives c → walk_says F n k ≡ gives s → c ≤ d
    → Lists F n k (listing d s)
walk_lists_the_words_in_order F n k c s d e w h =
    let a : Counted F n k c = count_given F n k c e in
    let p : Standing F n k c 0 s = walk_stands F n k c s e w in
    let r : s.remaining ≡ count F n k = sym (zero-add s.remaining) ∙ p.left ∙ a.is in
    subst (Lists F n k)
    (sym
    (walk_lists_by_rank F n k c d 0 s a p ∙ ap (λ (m : ℕ). take d (from (unrank_of F k) 0 m)) r
    ∙ take_all d (from (unrank_of F k) 0 (count F n k)) (omega (arith, from_long (unrank_of F k) 0 (count F n k), a.is))))
    (ranks_list F n k)
