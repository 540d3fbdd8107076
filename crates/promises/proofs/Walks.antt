-- A walk goes through the words in the order of their ranks. Assumes nothing.
--   positive_of_not_zero    what is not 0 is above 0
--   Standing F n k c i s    the state s of a walk over c words has given i of them
--   successor_of_unrank, successor_of_the_last    the successor of the word of a rank is that of the next rank, and of the last there is none
--   walk_stands, step_ends    the start, and the end: after its last word a walk stands nowhere
--   walk_lists_by_rank    d steps give the words of the ranks below d, up to the count
--   far_step_is_by_rank    what a walk over n gives after d further steps is the index of rank d, and 4 from the count on: the steps before it need not be made
use Rattle.std.specs.Prelude.{Some, None}
use mathlib.Core.Path.{◌≡◌, refl, sym, ap, ap₂, ◌∙◌}
use mathlib.Core.Bool.{Bool, true, false}
use mathlib.Core.List.{List, ◌∷◌}
use Prim.Native.Nat.{ℕ, zero, suc, ◌+◌, ◌-◌, ◌≤◌, ◌<◌}
use native.Mathlib.Nat.{zero-add, add-zero, zero-lt-suc}
use native.Mathlib.Omega.{arith}
use borrow.Author.Tests.{eq-eqb, ne_eqb, eqb-false, le-leb, lt-leb, ltb-true, ltb-false}
use lib.Dec.{eqb, leb, ltb}
use lib.ListN.{length, take}
use Rattle.pascal.proofs.Choose.{choose_none}
use Rattle.words.specs.declared.Family.{Family}
use Rattle.words.specs.Pick.{pick}
use Rattle.words.specs.Word.{Monotone, Word, shifted_alphabet, count}
use Rattle.words.specs.Unrank.{unrank_of}
use Rattle.words.specs.Next.{first, next}
use Rattle.words.proofs.Rank.{rank_tells_words_apart, rank_below_count}
use Rattle.words.proofs.Unrank.{unrank_long, unrank_monotone, unrank_is_a_word, rank_of_unrank}
use Rattle.words.proofs.Next.{next_long, next_monotone, next_rank}
use Rattle.words.proofs.Ends.{first_is_unrank_zero}
use Rattle.bits.specs.Member.{reaches}
use Rattle.bits.proofs.Member.{reaches_not}
use Rattle.answers.specs.declared.Index.{Index}
use Rattle.answers.specs.Says.{Says, refuses_with, refuses, gives, refused_if, and_then}
use Rattle.answers.specs.Terms.{index_of, word_of}
use Rattle.answers.proofs.Says.{gives_same}
use Rattle.answers.proofs.Terms.{word_of_index}
use Rattle.monotone_walk.specs.declared.Walk.{Walk}
use Rattle.monotone_count.specs.Rules.{count_says, walk_says}
use Rattle.monotone_walk.specs.Rules.{next_says, successor_says}
use Rattle.monotone_unrank.specs.Rules.{unrank_over_says}
use Rattle.taking.specs.Taken.{Accepted}
use Rattle.taking.proofs.Accepted.{index-accepted, taken-accepted}
use Rattle.monotone_walk.specs.Walks.{current, step_from, step_says}
use Rattle.monotone_count.proofs.Rules.{Counted, count_given}
use Rattle.promises.proofs.From.{from}
use Rattle.promises.specs.Listing.{follow, listing, step_gives}
use Rattle.monotone_walk.specs.declared.Moved.{Moved}

pub positive_of_not_zero : (a : ℕ) → (a ≡ 0 → ⊥) → 0 < a
positive_of_not_zero zero h = absurd (h refl)
positive_of_not_zero (suc a) h = zero-lt-suc a

-- ---- the successor of the word of a rank

-- there is a second word only of words that have a symbol
two_words : (F : Family) (n k i : ℕ) → suc i < count F n k → 0 < k
two_words F n zero i h = absurd (omega (arith, h, choose_none (shifted_alphabet F n 0)))
two_words F n (suc k) i h = zero-lt-suc k

next_of_unrank : (F : Family) (n k i : ℕ) → suc i < count F n k → next F (unrank_of F k i) ≡ unrank_of F k (suc i)
next_of_unrank F n k i h =
    let m = unrank_monotone F k i in
    rank_tells_words_apart F (next F (unrank_of F k i)) (unrank_of F k (suc i)) (next_monotone F (unrank_of F k i) m) (unrank_monotone F k (suc i))
    (next_long F (unrank_of F k i) ∙ unrank_long F k i ∙ sym (unrank_long F k (suc i)))
    (next_rank F (unrank_of F k i) (omega (arith, unrank_long F k i, two_words F n k i h)) m
    ∙ ap suc (rank_of_unrank F n k i (omega arith)) ∙ sym (rank_of_unrank F n k (suc i) h))

-- what taking the word of a rank leaves to be said
unranked_next : (F : Family) (n k i : ℕ) → shifted_alphabet F n k ≤ 64 → i < count F n k
    → successor_says (index_of F n (unrank_of F k i))
    ≡ refused_if (eqb (length (unrank_of F k i)) 0) 4 (refused_if (reaches n (next F (unrank_of F k i))) 4 (gives (index_of F n (next F (unrank_of F k i)))))
unranked_next F n k i l h =
    let e : word_of (index_of F n (unrank_of F k i)) ≡ unrank_of F k i = word_of_index F n (unrank_of F k i) (unrank_monotone F k i) in
    taken-accepted (index_of F n (unrank_of F k i)) (next_says (index_of F n (unrank_of F k i))) (index-accepted F n k (unrank_of F k i) l (unrank_is_a_word F n k i h))
    ∙ ap (λ (w : List ℕ). refused_if (eqb (length w) 0) 4 (refused_if (reaches n (next F w)) 4 (gives (index_of F n (next F w))))) e

pub successor_of_unrank : (F : Family) (n k i : ℕ) → shifted_alphabet F n k ≤ 64 → suc i < count F n k
    → successor_says (index_of F n (unrank_of F k i)) ≡ gives (index_of F n (unrank_of F k (suc i)))
successor_of_unrank F n k i l h =
    let u : next F (unrank_of F k i) ≡ unrank_of F k (suc i) = next_of_unrank F n k i h in
    let s : eqb (length (unrank_of F k i)) 0 ≡ false = ne_eqb (length (unrank_of F k i)) 0 (λ z. omega (arith, z, unrank_long F k i, two_words F n k i h)) in
    let b : reaches n (unrank_of F k (suc i)) ≡ false = (reaches_not n (unrank_of F k (suc i))).1 (unrank_is_a_word F n k (suc i) h).below in
    unranked_next F n k i l (omega arith) ∙ simp (u, s, b)

-- the word of the greatest rank has no next one over n
pub successor_of_the_last : (F : Family) (n k i : ℕ) → shifted_alphabet F n k ≤ 64 → suc i ≡ count F n k → successor_says (index_of F n (unrank_of F k i)) ≡ refuses 4
successor_of_the_last F n k i l h = unranked_next F n k i l (omega arith) ∙ go (eqb (length (unrank_of F k i)) 0) refl (reaches n (next F (unrank_of F k i))) refl
  where
    go : (s : Bool) → eqb (length (unrank_of F k i)) 0 ≡ s → (t : Bool) → reaches n (next F (unrank_of F k i)) ≡ t
        → refused_if s 4 (refused_if t 4 (gives (index_of F n (next F (unrank_of F k i))))) ≡ refuses 4
    go true p t q = refl
    go false p true q = refl
    go false p false q =
        let m : Monotone F (unrank_of F k i) = unrank_monotone F k i in
        let some : 0 < length (unrank_of F k i) = positive_of_not_zero (length (unrank_of F k i)) (eqb-false (length (unrank_of F k i)) 0 p) in
        let d : Word F n k (next F (unrank_of F k i)) =
        record { long = next_long F (unrank_of F k i) ∙ unrank_long F k i; monotone = next_monotone F (unrank_of F k i) m; below = (reaches_not n (next F (unrank_of F k i))).0 q } in
        absurd (omega (arith, rank_below_count F n k (next F (unrank_of F k i)) d, next_rank F (unrank_of F k i) some m, rank_of_unrank F n k i (omega arith)))

-- ---- the state of a walk

pub record Standing (F : Family) (n k c i : ℕ) (s : Walk) : Type 0 where
  pub left : i + s.remaining ≡ c
  pub at : i < c → s.current ≡ Some (index_of F n (unrank_of F k i))
  pub past : i ≡ c → s.current ≡ None

pub walk_stands : (F : Family) (n k c : ℕ) (s : Walk) → count_says F n k ≡ gives c → walk_says F n k ≡ gives s → Standing F n k c 0 s
walk_stands F n k c s e w = go (gives_same begin s (sym (ap (λ a. and_then a state) e) ∙ w))
  where
    state : ℕ → Says Walk
    state c = gives (record { current = pick (eqb c 0) None (Some (index_of F n (first F k))); remaining = c })

    begin : Walk
    begin = record { current = pick (eqb c 0) None (Some (index_of F n (first F k))); remaining = c }

    go : begin ≡ s → Standing F n k c 0 s
    go p =
        record {
          left = zero-add s.remaining ∙ sym (ap (λ (t : Walk). t.remaining) p);
          at = λ h. sym (ap (λ (t : Walk). t.current) p)
              ∙ ap (λ t. pick t None (Some (index_of F n (first F k)))) (ne_eqb c 0 (λ z. omega arith))
              ∙ ap (λ (u : List ℕ). Some (index_of F n u)) (sym (first_is_unrank_zero F k));
          past = λ z. sym (ap (λ (t : Walk). t.current) p) ∙ ap (λ t. pick t None (Some (index_of F n (first F k)))) (eq-eqb c 0 (sym z));
        }

-- the state after a step from the word of rank i
moved : Family → ℕ → ℕ → ℕ → Walk → Walk
moved F n k i s = record { current = current (successor_says (index_of F n (unrank_of F k i))); remaining = s.remaining - 1 }

step_moves : (F : Family) (n k c i : ℕ) (s : Walk) → Counted F n k c → Standing F n k c i s → i < c
    → (step_says s ≡ gives (record { index = index_of F n (unrank_of F k i); state = moved F n k i s })) × Standing F n k c (suc i) (moved F n k i s)
unfolding moved
step_moves F n k c i s d p h =
    let r : eqb s.remaining 0 ≡ false = ne_eqb s.remaining 0 (λ z. omega (arith, z, p.left)) in
    let x : Index = index_of F n (unrank_of F k i) in
    let a : Accepted x = index-accepted F n k (unrank_of F k i) d.alphabet (unrank_is_a_word F n k i (omega (arith, h, d.is))) in
    let g : Says Moved = gives (record { index = x; state = record { current = current (successor_says x); remaining = s.remaining - 1 } }) in (
      ap (λ z. step_from z s.remaining) (p.at h) ∙ taken-accepted x (refused_if (eqb s.remaining 0) 4 g) a ∙ ap (λ t. refused_if t 4 g) r,
      record {
        left = omega (arith, p.left);
        at = λ l. ap current (successor_of_unrank F n k i d.alphabet (omega (arith, l, d.is)));
        past = λ z. ap current (successor_of_the_last F n k i d.alphabet (z ∙ d.is));
      },
    )

pub step_ends : (F : Family) (n k c i : ℕ) (s : Walk) → Standing F n k c i s → s.remaining ≡ 0 → step_says s ≡ refuses 4
step_ends F n k c i s p z = ap (λ t. step_from t s.remaining) (p.past (omega (arith, p.left)))

pub walk_lists_by_rank : (F : Family) (n k c d i : ℕ) (s : Walk) → Counted F n k c → Standing F n k c i s
    → listing d s ≡ take d (from (unrank_of F k) i s.remaining)
unfolding listing moved
walk_lists_by_rank F n k c zero i s a p = refl
walk_lists_by_rank F n k c (suc d) i s a p = go s.remaining refl (λ h. walk_lists_by_rank F n k c d (suc i) (moved F n k i s) a (step_moves F n k c i s a p h).1)
  where
    go : (r : ℕ) → s.remaining ≡ r → (i < c → listing d (moved F n k i s) ≡ take d (from (unrank_of F k) (suc i) (moved F n k i s).remaining))
        → follow (listing d) (step_says s) ≡ take (suc d) (from (unrank_of F k) i r)
    go zero e ih = ap (follow (listing d)) (step_ends F n k c i s p e)
    go (suc r) e ih =
        let h : i < c = omega (arith, e, p.left) in
        let f : s.remaining - 1 ≡ r = omega arith in
        ap (follow (listing d)) (step_moves F n k c i s a p h).0
        ∙ ap₂ (λ (u : List ℕ) (l : List (List ℕ)). u ∷ l) (word_of_index F n (unrank_of F k i) (unrank_monotone F k i))
        (ih h ∙ ap (λ (m : ℕ). take d (from (unrank_of F k) (suc i) m)) f)

-- ---- a step far ahead

-- the answer by the rank
abbrev gives_by_rank : Family → ℕ → ℕ → ℕ → ℕ → Says Index
gives_by_rank F n k c d = refused_if (leb c d) 4 (gives (index_of F n (unrank_of F k d)))

step_gives_by_rank : (F : Family) (n k c d i : ℕ) (s : Walk) → Counted F n k c → Standing F n k c i s → step_gives d s ≡ gives_by_rank F n k c (i + d)
unfolding step_gives moved
step_gives_by_rank F n k c zero i s a p = go (ltb i c) refl
  where
    go : (t : Bool) → ltb i c ≡ t → and_then (step_says s) (λ m. gives m.index) ≡ gives_by_rank F n k c (i + 0)
    go true e =
        let h = ltb-true i c e in
        ap (λ (a : Says Moved). and_then a (λ m. gives m.index)) (step_moves F n k c i s a p h).0
        ∙ sym (simp (add-zero, lt-leb c i h))
    go false e =
        let h = ltb-false i c e in
        ap (λ (a : Says Moved). and_then a (λ m. gives m.index)) (step_ends F n k c i s p (omega (arith, p.left)))
        ∙ sym (simp (add-zero, le-leb c i h))
step_gives_by_rank F n k c (suc d) i s a p =
    go (ltb i c) refl (λ h. step_gives_by_rank F n k c d (suc i) (moved F n k i s) a (step_moves F n k c i s a p h).1)
  where
    go : (t : Bool) → ltb i c ≡ t → (i < c → step_gives d (moved F n k i s) ≡ gives_by_rank F n k c (suc i + d))
        → and_then (step_says s) (λ m. step_gives d m.state) ≡ gives_by_rank F n k c (i + suc d)
    go true e ih =
        let h = ltb-true i c e in
        let f : suc i + d ≡ i + suc d = omega arith in
        ap (λ (a : Says Moved). and_then a (λ m. step_gives d m.state)) (step_moves F n k c i s a p h).0 ∙ ih h ∙ ap (gives_by_rank F n k c) f
    go false e ih =
        let h : c ≤ i + suc d = omega (arith, ltb-false i c e) in
        ap (λ (a : Says Moved). and_then a (λ m. step_gives d m.state)) (step_ends F n k c i s p (omega (arith, p.left, ltb-false i c e)))
        ∙ sym (simp (le-leb c (i + suc d) h))

pub far_step_is_by_rank : (F : Family) (n k d : ℕ)
    → and_then (walk_says F n k) (step_gives d) ≡ and_then (count_says F n k) (λ c. refused_if (leb c d) 4 (unrank_over_says F n k d))
far_step_is_by_rank F n k d = go (count_says F n k) refl
  where
    state : ℕ → Says Walk
    state c = gives (record { current = pick (eqb c 0) None (Some (index_of F n (first F k))); remaining = c })

    begin : ℕ → Walk
    begin c = record { current = pick (eqb c 0) None (Some (index_of F n (first F k))); remaining = c }

    ranked : ℕ → Says Index
    ranked c = refused_if (leb c d) 3 (gives (index_of F n (unrank_of F k d)))

    told : (c : ℕ) (t : Bool) → leb c d ≡ t → gives_by_rank F n k c d ≡ pick t (refuses 4) (ranked c)
    told c true e = simp e
    told c false e = simp e

    go : (a : Says ℕ) → count_says F n k ≡ a
        → and_then (and_then a state) (step_gives d) ≡ and_then a (λ c. refused_if (leb c d) 4 (and_then a ranked))
    go (refuses_with e p) q = refl
    go (gives c) q =
        let o : Standing F n k c 0 (begin c) = walk_stands F n k c (begin c) q (ap (λ a. and_then a state) q) in
        step_gives_by_rank F n k c d 0 (begin c) (count_given F n k c q) o ∙ ap (gives_by_rank F n k c) (zero-add d) ∙ told c (leb c d) refl
