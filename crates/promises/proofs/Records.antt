-- An index with its alphabet (02 §8), over what the calls say. Assumes nothing.
--   record_gives_its_word, word_gives_its_record    an accepted record and its word over n are one: each gives the other, and is got back from it
--   rank_of_an_index_is_that_of_its_word    the rank of an accepted index is that of its word, which is given no n
--   rank_does_not_depend_on_the_alphabet    so two accepted records of one family with the same bits have one rank
--   packed-accepted, unranked-accepted, unranked_any_accepted, successor_accepted, started-accepted, stepped-accepted    every index that a call gives is an
--     accepted record, over the alphabet that its rule names. Those with a sign stand with their calls: `canonical_term` and `merged-term` in algebra,
--     `deletion_accepted` and `complement_accepted` in deletion
use Rattle.std.specs.Prelude.{Option, Some, None}
use mathlib.Core.Path.{◌≡◌, refl, sym, ap, subst, ◌∙◌}
use mathlib.Core.Bool.{Bool, true, false, not}
use mathlib.Core.List.{List}
use Prim.Native.Nat.{ℕ, ◌-◌, ◌≤◌}
use native.Mathlib.Omega.{arith}
use borrow.Author.Tests.{ltb-false, leb-false, eqb-false, not-false}
use lib.Dec.{eqb, leb, ltb}
use lib.ListN.{length}
use Rattle.words.specs.declared.Family.{Family}
use Rattle.words.specs.Pick.{pick}
use Rattle.words.specs.Word.{Word, shifted_alphabet}
use Rattle.words.specs.Rank.{rank_of}
use Rattle.words.specs.Unrank.{unrank_of}
use Rattle.words.specs.Next.{first, next}
use Rattle.words.proofs.Rank.{word_short}
use Rattle.words.proofs.Next.{next_long, next_monotone}
use Rattle.words.proofs.Ends.{first_is_a_word}
use Rattle.bits.specs.Member.{reaches}
use Rattle.bits.proofs.Member.{reaches_not}
use Rattle.answers.specs.declared.Index.{Index}
use Rattle.answers.specs.Says.{Says, refuses_with, gives, refused_if, refused_at_if}
use Rattle.answers.specs.Terms.{index_of, word_of}
use Rattle.answers.proofs.Says.{gives_same, gives_no_refusal, passed, passed_with, then_gave}
use Rattle.answers.proofs.Terms.{word_of_index, index_of_word, word-monotone}
use Rattle.packing.specs.Checks.{rises, break_at, last_shifted}
use Rattle.packing.proofs.Checks.{rises_is_monotone}
use Rattle.taking.specs.Taken.{shifted_alphabet_of, Accepted}
use Rattle.taking.proofs.Accepted.{accepted_is_a_word, index-accepted, taken-accepted, taken_gives}
use Rattle.monotone_walk.specs.declared.Walk.{Walk}
use Rattle.monotone_count.specs.Rules.{count_says, walk_says}
use Rattle.monotone.specs.Rules.{pack_says}
use Rattle.monotone_rank.specs.Rules.{rank_says, rank_of_says}
use Rattle.monotone_unrank.specs.Rules.{unrank_over_says, widest, unrank_any_says}
use Rattle.monotone_walk.specs.Rules.{successor_says}
use Rattle.monotone_walk.specs.Walks.{current, step_from, step_says}
use Rattle.monotone_count.proofs.Rules.{Counted, count_given}
use Rattle.monotone.proofs.Rules.{checked_gives}
use Rattle.monotone_unrank.proofs.Passing.{unrank_accepted}
use Rattle.promises.proofs.Walks.{positive_of_not_zero}
use Rattle.promises.proofs.Terms.{word-ranked, Succeeds, successor_given}
use Rattle.monotone_walk.specs.declared.Moved.{Moved}

-- ---- a record and its word

pub record_gives_its_word : (x : Index) → Accepted x → Word x.family x.alphabet (length (word_of x)) (word_of x) × (index_of x.family x.alphabet (word_of x) ≡ x)
record_gives_its_word x a = (((accepted_is_a_word x).0 a).1, index_of_word x)

pub word_gives_its_record : (F : Family) (n k : ℕ) (w : List ℕ) → shifted_alphabet F n k ≤ 64 → Word F n k w → Accepted (index_of F n w) × (word_of (index_of F n w) ≡ w)
word_gives_its_record F n k w l h = (index-accepted F n k w l h, word_of_index F n w h.monotone)

-- ---- the rank

-- what is said of an accepted index is said of its family and its word
by_word : (x : Index) → Accepted x → rank_of_says x ≡ gives (rank_of x.family (word_of x))
by_word x a = taken-accepted x (gives (rank_of x.family (word_of x))) a

pub rank_of_an_index_is_that_of_its_word : (x : Index) → Accepted x → rank_of_says x ≡ rank_says x.family (word_of x)
rank_of_an_index_is_that_of_its_word x a =
    let h : Word x.family x.alphabet (length (word_of x)) (word_of x) = ((accepted_is_a_word x).0 a).1 in
    let k : length (word_of x) ≤ shifted_alphabet_of x = word_short x.family x.alphabet (length (word_of x)) (word_of x) h in
    by_word x a
    ∙ sym (checked_gives x.family (word_of x) (rank_of x.family (word_of x)) (word-ranked x.family x.alphabet (length (word_of x)) (word_of x) h (omega (arith, a.narrow)) a.narrow))

pub rank_does_not_depend_on_the_alphabet : (x y : Index) → Accepted x → Accepted y → x.family ≡ y.family → x.bits ≡ y.bits → rank_of_says x ≡ rank_of_says y
rank_does_not_depend_on_the_alphabet x y a b f e = by_word x a ∙ ap gives same ∙ sym (by_word y b)
  where
    bare : Family → ℕ → Index
    bare F c = record { family = F; alphabet = 0; bits = c }

    same : rank_of x.family (word_of x) ≡ rank_of y.family (word_of y)
    same =
        ap (λ (F : Family). rank_of F (word_of (bare F x.bits))) f ∙ ap (λ (c : ℕ). rank_of y.family (word_of (bare y.family c))) e

-- ---- what is given is accepted

pub packed-accepted : (F : Family) (n : ℕ) (w : List ℕ) (x : Index) → pack_says F n w ≡ gives x → Accepted x × (x ≡ index_of F n w) × Word F n (length w) w
packed-accepted F n w x e =
    let s₅ : Says Index = refused_if (reaches n w) 7 (gives (index_of F n w)) in
    let s₄ : Says Index = refused_if (ltb 63 (last_shifted F w)) 1 s₅ in
    let s₃ : Says Index = refused_at_if (not (rises F w)) 2 (break_at F w) s₄ in
    let a = passed (ltb 64 (length w)) 1 (refused_if (ltb 64 (shifted_alphabet F n (length w))) 1 s₃) x e in
    let b = passed (ltb 64 (shifted_alphabet F n (length w))) 1 s₃ x a.1 in
    let c = passed_with (not (rises F w)) 2 _ s₄ x b.1 in
    let d = passed (ltb 63 (last_shifted F w)) 1 s₅ x c.1 in
    let f = passed (reaches n w) 7 (gives (index_of F n w)) x d.1 in
    let g : Word F n (length w) w = record { long = refl; monotone = (rises_is_monotone F w).0 (not-false (rises F w) c.0); below = (reaches_not n w).0 f.0 } in
    let is : index_of F n w ≡ x = gives_same (index_of F n w) x f.1 in
    (subst Accepted is (index-accepted F n (length w) w (ltb-false 64 (shifted_alphabet F n (length w)) b.0) g), sym is, g)

pub unranked-accepted : (F : Family) (n k r : ℕ) (x : Index) → unrank_over_says F n k r ≡ gives x → Accepted x × (x.alphabet ≡ n)
unranked-accepted F n k r x e =
    let t = then_gave (count_says F n k) (λ c. refused_if (leb c r) 3 (gives (index_of F n (unrank_of F k r)))) x e in
    let p = passed (leb t.0 r) 3 (gives (index_of F n (unrank_of F k r))) x t.2 in
    let is : index_of F n (unrank_of F k r) ≡ x = gives_same (index_of F n (unrank_of F k r)) x p.1 in
    (subst Accepted is (unrank_accepted F n k t.0 r t.1 (leb-false t.0 r p.0)), ap (λ (z : Index). z.alphabet) (sym is))

pub unranked_any_accepted : (F : Family) (k r : ℕ) (x : Index) → unrank_any_says F k r ≡ gives x → Accepted x × (x.alphabet ≡ widest F k)
unranked_any_accepted F k r x e = unranked-accepted F (widest F k) k r x (passed (ltb 64 k) 1 (unrank_over_says F (widest F k) k r) x e).1

pub successor_accepted : (x y : Index) → successor_says x ≡ gives y → Accepted y × (y.alphabet ≡ x.alphabet)
successor_accepted x y e =
    let s : Succeeds x y = successor_given x y e in (
      subst Accepted s.is
          (index-accepted x.family x.alphabet (length (word_of x)) (next x.family (word_of x)) s.taken.narrow
          (record { long = next_long x.family (word_of x); monotone = next_monotone x.family (word_of x) (word-monotone x); below = s.over })),
      ap (λ (z : Index). z.alphabet) (sym s.is),
    )

-- what a walk starts at, and what a step gives and moves to
pub started-accepted : (F : Family) (n k : ℕ) (s : Walk) (x : Index) → walk_says F n k ≡ gives s → s.current ≡ Some x → Accepted x × (x.alphabet ≡ n)
started-accepted F n k s x e f = go (then_gave (count_says F n k) (λ c. gives (begin c)) s e)
  where
    begin : ℕ → Walk
    begin c = record { current = pick (eqb c 0) None (Some (index_of F n (first F k))); remaining = c }

    on : (c : ℕ) → Counted F n k c → (t : Bool) → eqb c 0 ≡ t → pick t None (Some (index_of F n (first F k))) ≡ Some x → Accepted x × (x.alphabet ≡ n)
    on c d true q g = absurd (let z : ◌≡◌ {A = ℕ} 0 1 = cc in omega arith)
    on c d false q g =
        let is : index_of F n (first F k) ≡ x = cc in (
          subst Accepted is (index-accepted F n k (first F k) d.alphabet (first_is_a_word F n k (omega (arith, d.is, positive_of_not_zero c (eqb-false c 0 q))))),
          ap (λ (z : Index). z.alphabet) (sym is),
        )

    go : (c : ℕ) × (count_says F n k ≡ gives c) × (gives (begin c) ≡ gives s) → Accepted x × (x.alphabet ≡ n)
    go t =
        on t.0 (count_given F n k t.0 t.1) (eqb t.0 0) refl (ap (λ (w : Walk). w.current) (gives_same (begin t.0) s t.2) ∙ f)

pub stepped-accepted : (s : Walk) (m : Moved) → step_says s ≡ gives m → Accepted m.index × ((y : Index) → m.state.current ≡ Some y → Accepted y)
stepped-accepted s m e = go s.current e
  where
    given : Index → Moved
    given x = record { index = x; state = record { current = current (successor_says x); remaining = s.remaining - 1 } }

    to : (x y : Index) → (r : Says Index) → successor_says x ≡ r → current r ≡ Some y → Accepted y
    to x y (refuses_with d c) p g = absurd (let z : ◌≡◌ {A = ℕ} 0 1 = cc in omega arith)
    to x y (gives z) p g = let is : z ≡ y = cc in subst Accepted is (successor_accepted x z p).0

    on : (x : Index) → Accepted x → given x ≡ m → Accepted m.index × ((y : Index) → m.state.current ≡ Some y → Accepted y)
    on x a p = (subst (λ (w : Moved). Accepted w.index) p a, λ y g. to x y (successor_says x) refl (ap (λ (w : Moved). w.state.current) p ∙ g))

    go : (c : Option Index) → step_from c s.remaining ≡ gives m → Accepted m.index × ((y : Index) → m.state.current ≡ Some y → Accepted y)
    go None f = absurd (gives_no_refusal m 4 (sym f))
    go (Some x) f =
        let a = taken_gives x (refused_if (eqb s.remaining 0) 4 (gives (given x))) m f in
        on x a.0 (gives_same (given x) m (passed (eqb s.remaining 0) 4 (gives (given x)) m a.1).1)
