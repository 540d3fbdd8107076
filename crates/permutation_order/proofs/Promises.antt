-- What rank, unrank and successor promise, over what the calls say (01, "Permutations"; Knuth 7.2.1.2). Assumes nothing.
--   rank_exactly    which records are ranked, and to what
--   rank_tells_how_many_earlier    the rank is how many permutations of that length are earlier in colex order
--   rank_refuses_the_past    10 if anything but 0 stands past the length
--   unnumbered_exactly    1 exactly if the length is above those that are numbered
--   unrank_exactly    unranking gives exactly the permutation of that length and rank
--   no_such_rank_exactly    3 exactly if the rank is not below n!, which is how many permutations there are
--   rank_of_unranked, unrank_of_ranked    unranking inverts ranking both ways
--   first_is_descending, last_is_the_identity    the decreasing word has rank 0, and the identity rank n! - 1
--   successor-exactly    the successor is the permutation of the next rank
--   successor-is-next    it is later, and nothing lies between
--   last-exactly    4 exactly at the identity
--   unrank_gives_a_whole_record, successor_gives_a_whole_record    a record that is given has all its entries
--   unranked_is_taken, successor_is_taken    and is taken by every call
use Rattle.std.specs.Prelude.{Result, Ok}
use mathlib.Core.Path.{◌≡◌, refl, sym, ap, subst, subst⁻¹, ◌∙◌}
use mathlib.Core.Logic.{◌↔◌}
use mathlib.Core.Bool.{Bool, true, false}
use mathlib.Core.List.{List}
use Prim.Native.Nat.{ℕ, suc, ◌≤◌, ◌<◌}
use native.Mathlib.Decide.{dec_le}
use native.Mathlib.Omega.{arith}
use borrow.Author.Tests.{ltb-true, ltb-false, lt-ltb, le-ltb, leb-true, leb-false, le-leb, lt-leb}
use lib.Dec.{leb}
use lib.ListN.{get_or}
use Rattle.words.specs.Colex.{ColexLt}
use Rattle.words.specs.Factorial.{factorial}
use Rattle.words.specs.HowMany.{HowMany}
use Rattle.arrangements.specs.Permutation.{Permutation as IsPermutation, identity, descending}
use Rattle.arrangements.specs.Rank.{arrangement_rank, arrangement_unrank}
use Rattle.arrangements.proofs.Unrank.{unrank_is_a_permutation, rank_of_unrank, unrank_of_rank}
use Rattle.arrangements.proofs.Counted.{rank_is_below, rank_is_how_many_earlier}
use Rattle.arrangements.proofs.Ends.{descending_is_a_permutation, descending-rank, identity-rank, last_is_identity}
use Rattle.arrangements.proofs.Group.{identity_is_a_permutation}
use Rattle.arrangements.proofs.Next.{next_is_later, nothing-between}
use Rattle.answers.specs.declared.Refusal.{Refusal}
use Rattle.answers.specs.Says.{refuses, gives, refused_if, answer_says}
use Rattle.answers.proofs.Says.{gives_same, refuses_same, gives_no_refusal, passed, then_gave}
use Rattle.permutation.specs.declared.Permutation.{Permutation}
use Rattle.permutation.specs.Record.{arrangement_of, record_of, Whole, recorded}
use Rattle.permutation.specs.Rules.{taken_arrangement}
use Rattle.permutation.proofs.Arranging.{word_of_record, record_holds, recorded-whole}
use Rattle.permutation.proofs.Promises.{Judged, long, broken, held, judged, too_long_exactly, past_the_length_is_refused, given_is_taken}
use Rattle.permutation_order.specs.Rules.{longest_numbered, unnumbered, numbered, Ordered, arrangement_rank_says, arrangement_unrank_says, arrangement_successor_says}
use Rattle.permutation_order.proofs.Numbering.{ordered-numbered, numbered-ordered}

-- ---- the rank

rank_of_lem : (p : Permutation) → Ordered p → arrangement_rank_says p ≡ gives (arrangement_rank (arrangement_of p))
rank_of_lem p o = simp (ordered-numbered p o)

pub rank_exactly : (p : Permutation) → Whole p → (r : ℕ) → (arrangement_rank_says p ≡ gives r) ↔ (Ordered p × (r ≡ arrangement_rank (arrangement_of p)))
rank_exactly p l r = (to, λ t. rank_of_lem p t.0 ∙ ap gives (sym t.1))
  where
    to : arrangement_rank_says p ≡ gives r → Ordered p × (r ≡ arrangement_rank (arrangement_of p))
    to e =
        let t = then_gave (numbered p) (λ w. gives (arrangement_rank w)) r e in
        let o = numbered-ordered p t.0 l t.1 in
        (o, gives_same r (arrangement_rank (arrangement_of p)) (sym e ∙ rank_of_lem p o))

pub rank_tells_how_many_earlier : (p : Permutation) → Whole p → (r : ℕ) → arrangement_rank_says p ≡ gives r → HowMany (λ (u : List ℕ). IsPermutation p.len u × ColexLt u (arrangement_of p)) r
rank_tells_how_many_earlier p l r e =
    let t = (rank_exactly p l r).0 e in
    subst⁻¹ (HowMany (λ (u : List ℕ). IsPermutation p.len u × ColexLt u (arrangement_of p))) t.1 (rank_is_how_many_earlier p.len (arrangement_of p) t.0.holds.permutation)

pub rank_refuses_the_past : (p : Permutation) → Whole p → p.len ≤ longest_numbered → (i : ℕ) → p.len ≤ i → (get_or p.entries i 0 ≡ 0 → ⊥) → arrangement_rank_says p ≡ refuses 10
unfolding numbered
rank_refuses_the_past p l h i past n = simp (le-ltb longest_numbered p.len h, past_the_length_is_refused p l (omega arith) i past n)

pub unnumbered_exactly : (p : Permutation) → Whole p → (numbered p ≡ refuses 1) ↔ (longest_numbered < p.len)
unfolding numbered
unnumbered_exactly p l = (to (unnumbered p.len) refl, λ h. simp (lt-ltb longest_numbered p.len h))
  where
    to : (s : Bool) → unnumbered p.len ≡ s → refused_if s 1 (taken_arrangement p) ≡ refuses 1 → longest_numbered < p.len
    to true a e = ltb-true longest_numbered p.len a
    to false a e = absurd (omega (arith, (too_long_exactly p l).0 e, ltb-false longest_numbered p.len a))

-- ---- unranking

unrank_below : (n r : ℕ) → n ≤ longest_numbered → r < factorial n → arrangement_unrank_says n r ≡ gives (arrangement_unrank n r)
unrank_below n r l h = simp (le-ltb longest_numbered n l, lt-leb (factorial n) r h)

pub unrank_exactly : (n r : ℕ) (w : List ℕ) → (arrangement_unrank_says n r ≡ gives w) ↔ ((n ≤ longest_numbered) × IsPermutation n w × (arrangement_rank w ≡ r))
unrank_exactly n r w = (to, from)
  where
    to : arrangement_unrank_says n r ≡ gives w → (n ≤ longest_numbered) × IsPermutation n w × (arrangement_rank w ≡ r)
    to e =
        let a = passed (unnumbered n) 1 (refused_if (leb (factorial n) r) 3 (gives (arrangement_unrank n r))) w e in
        let b = passed (leb (factorial n) r) 3 (gives (arrangement_unrank n r)) w a.1 in
        let h = leb-false (factorial n) r b.0 in
        let q = gives_same (arrangement_unrank n r) w b.1 in
        (ltb-false longest_numbered n a.0, subst (IsPermutation n) q (unrank_is_a_permutation n r h), ap arrangement_rank (sym q) ∙ rank_of_unrank n r h)

    from : (n ≤ longest_numbered) × IsPermutation n w × (arrangement_rank w ≡ r) → arrangement_unrank_says n r ≡ gives w
    from t =
        unrank_below n r t.0 (subst (λ (s : ℕ). s < factorial n) t.2 (rank_is_below n w t.1))
        ∙ ap gives (ap (arrangement_unrank n) (sym t.2) ∙ unrank_of_rank n w t.1)

pub no_such_rank_exactly : (n r : ℕ) → (arrangement_unrank_says n r ≡ refuses 3) ↔ ((n ≤ longest_numbered) × (factorial n ≤ r))
no_such_rank_exactly n r = (to (unnumbered n) refl (leb (factorial n) r) refl, λ t. simp (le-ltb longest_numbered n t.0, le-leb (factorial n) r t.1))
  where
    to : (s : Bool) → unnumbered n ≡ s → (t : Bool) → leb (factorial n) r ≡ t → refused_if s 1 (refused_if t 3 (gives (arrangement_unrank n r))) ≡ refuses 3 → (n ≤ longest_numbered) × (factorial n ≤ r)
    to true a t b e = absurd (omega (arith, refuses_same {A = List ℕ} (refuses 1) 1 3 refl e))
    to false a true b e = (ltb-false longest_numbered n a, leb-true (factorial n) r b)
    to false a false b e = absurd (gives_no_refusal (arrangement_unrank n r) 3 e)

-- ---- both ways

pub rank_of_unranked : (n r : ℕ) (w : List ℕ) → arrangement_unrank_says n r ≡ gives w → arrangement_rank_says (record_of w) ≡ gives r
rank_of_unranked n r w e =
    let t = (unrank_exactly n r w).0 e in
    rank_of_lem (record_of w) (record { holds = record_holds n w t.1 (omega (arith, t.0)); few = omega (arith, t.0, t.1.long) }) ∙ ap gives (ap arrangement_rank (word_of_record w) ∙ t.2)

pub unrank_of_ranked : (p : Permutation) → Whole p → (r : ℕ) → arrangement_rank_says p ≡ gives r → arrangement_unrank_says p.len r ≡ gives (arrangement_of p)
unrank_of_ranked p l r e =
    let t = (rank_exactly p l r).0 e in
    (unrank_exactly p.len r (arrangement_of p)).1 (t.0.few, t.0.holds.permutation, sym t.1)

-- ---- the first and the last

pub first_is_descending : (n : ℕ) → n ≤ longest_numbered → arrangement_unrank_says n 0 ≡ gives (descending n)
first_is_descending n l = (unrank_exactly n 0 (descending n)).1 (l, descending_is_a_permutation n, descending-rank n)

pub last_is_the_identity : (n r : ℕ) → n ≤ longest_numbered → suc r ≡ factorial n → arrangement_unrank_says n r ≡ gives (identity n)
last_is_the_identity n r l e = (unrank_exactly n r (identity n)).1 (l, identity_is_a_permutation n, omega (arith, identity-rank n))

-- ---- the successor

module _ (p : Permutation) (l : Whole p) where
  successor-of : Ordered p → arrangement_successor_says p ≡ refused_if (leb (factorial p.len) (suc (arrangement_rank (arrangement_of p)))) 4 (gives (arrangement_unrank p.len (suc (arrangement_rank (arrangement_of p)))))
  successor-of o = simp (ordered-numbered p o)

  -- where there is one
  successor_given : (w : List ℕ) → arrangement_successor_says p ≡ gives w → Ordered p × (suc (arrangement_rank (arrangement_of p)) < factorial p.len) × (w ≡ arrangement_unrank p.len (suc (arrangement_rank (arrangement_of p))))
  successor_given w e =
      let t = then_gave (numbered p) (λ u. refused_if (leb (factorial p.len) (suc (arrangement_rank u))) 4 (gives (arrangement_unrank p.len (suc (arrangement_rank u))))) w e in
      let o = numbered-ordered p t.0 l t.1 in
      let s = passed (leb (factorial p.len) (suc (arrangement_rank (arrangement_of p)))) 4 (gives (arrangement_unrank p.len (suc (arrangement_rank (arrangement_of p))))) w (sym (successor-of o) ∙ e) in
      (o, leb-false (factorial p.len) (suc (arrangement_rank (arrangement_of p))) s.0, gives_same w (arrangement_unrank p.len (suc (arrangement_rank (arrangement_of p)))) (sym s.1))

  pub successor-exactly : (w : List ℕ) → (arrangement_successor_says p ≡ gives w) ↔ (Ordered p × IsPermutation p.len w × (arrangement_rank w ≡ suc (arrangement_rank (arrangement_of p))))
  successor-exactly w = (to, from)
    where
      to : arrangement_successor_says p ≡ gives w → Ordered p × IsPermutation p.len w × (arrangement_rank w ≡ suc (arrangement_rank (arrangement_of p)))
      to e =
          let t = successor_given w e in (
            t.0,
            subst⁻¹ (IsPermutation p.len) t.2 (unrank_is_a_permutation p.len (suc (arrangement_rank (arrangement_of p))) t.1),
            ap arrangement_rank t.2 ∙ rank_of_unrank p.len (suc (arrangement_rank (arrangement_of p))) t.1,
          )

      from : Ordered p × IsPermutation p.len w × (arrangement_rank w ≡ suc (arrangement_rank (arrangement_of p))) → arrangement_successor_says p ≡ gives w
      from t =
          successor-of t.0
          ∙ simp (lt-leb (factorial p.len) (suc (arrangement_rank (arrangement_of p))) (omega (arith, t.2, rank_is_below p.len w t.1)))
          (ap gives (ap (arrangement_unrank p.len) (sym t.2) ∙ unrank_of_rank p.len w t.1))

  pub successor-is-next : (w : List ℕ) → arrangement_successor_says p ≡ gives w
      → ColexLt (arrangement_of p) w × ((u : List ℕ) → IsPermutation p.len u → ColexLt (arrangement_of p) u → ColexLt u w → ⊥)
  successor-is-next w e =
      let t = successor_given w e in
      subst⁻¹ (λ (v : List ℕ). ColexLt (arrangement_of p) v × ((u : List ℕ) → IsPermutation p.len u → ColexLt (arrangement_of p) u → ColexLt u v → ⊥)) t.2
      (next_is_later p.len (arrangement_of p) t.0.holds.permutation t.1, nothing-between p.len (arrangement_of p) t.0.holds.permutation t.1)

  pub last-exactly : (arrangement_successor_says p ≡ refuses 4) ↔ (Ordered p × (arrangement_of p ≡ identity p.len))
  unfolding numbered
  last-exactly = (to (unnumbered p.len) refl (judged p l), from)
    where
      to : (s : Bool) → unnumbered p.len ≡ s → Judged p → arrangement_successor_says p ≡ refuses 4 → Ordered p × (arrangement_of p ≡ identity p.len)
      to true a j e = absurd (omega (arith, refuses_same (arrangement_successor_says p) 1 4 (simp a) e))
      to false a (long h t) e = absurd (omega (arith, refuses_same (arrangement_successor_says p) 1 4 (simp (a, t)) e))
      to false a (broken h n t) e = absurd (omega (arith, refuses_same (arrangement_successor_says p) 10 4 (simp (a, t)) e))
      to false a (held h t) e = (ordered, go (dec_le (factorial p.len) (suc (arrangement_rank (arrangement_of p)))))
        where
          ordered : Ordered p
          ordered = record { holds = h; few = ltb-false longest_numbered p.len a }

          go : Dec (factorial p.len ≤ suc (arrangement_rank (arrangement_of p))) → arrangement_of p ≡ identity p.len
          go (yes q) = last_is_identity p.len (arrangement_of p) h.permutation (omega (arith, rank_is_below p.len (arrangement_of p) h.permutation))
          go (no q) =
              absurd
              (gives_no_refusal (arrangement_unrank p.len (suc (arrangement_rank (arrangement_of p)))) 4
              (sym (successor-of ordered ∙ simp (lt-leb (factorial p.len) (suc (arrangement_rank (arrangement_of p))) (omega arith))) ∙ e))

      from : Ordered p × (arrangement_of p ≡ identity p.len) → arrangement_successor_says p ≡ refuses 4
      from t =
          successor-of t.0
          ∙ simp (le-leb (factorial p.len) (suc (arrangement_rank (arrangement_of p))) (omega (arith, identity-rank p.len, ap arrangement_rank t.1)))

-- ---- the records that are given

pub unrank_gives_a_whole_record : (n r : ℕ) (a : Result Permutation Refusal) → answer_says a ≡ recorded (arrangement_unrank_says n r) → (p : Permutation) → a ≡ Ok p → Whole p
unrank_gives_a_whole_record n r a h =
    recorded-whole (arrangement_unrank_says n r) a h (λ w e. let t = (unrank_exactly n r w).0 e in omega (arith, t.0, t.1.long))

pub successor_gives_a_whole_record : (p : Permutation) → Whole p → (r : Result Permutation Refusal) → answer_says r ≡ recorded (arrangement_successor_says p) → (q : Permutation) → r ≡ Ok q → Whole q
successor_gives_a_whole_record p l r h =
    recorded-whole (arrangement_successor_says p) r h (λ w e. let t = (successor-exactly p l w).0 e in omega (arith, t.0.holds.short, t.1.long))

pub unranked_is_taken : (n r : ℕ) (w : List ℕ) → arrangement_unrank_says n r ≡ gives w → taken_arrangement (record_of w) ≡ gives w
unranked_is_taken n r w e = let t = (unrank_exactly n r w).0 e in given_is_taken n w t.1 (omega (arith, t.0))

pub successor_is_taken : (p : Permutation) → Whole p → (w : List ℕ) → arrangement_successor_says p ≡ gives w → taken_arrangement (record_of w) ≡ gives w
successor_is_taken p l w e = let t = (successor-exactly p l w).0 e in given_is_taken p.len w t.1 t.0.holds.short
