-- The two passes over the entries of a derivative. Assumes nothing.
--   placed_first, placed-next, can-move    the walk stands at the word of each rank in turn
--   Pass, pass    what the place of a rank gives: an entry of the table, a multiplicity of at most 64, and by both the entry of the derivative
--   some_entries    there is at least one entry
--   all_none, all_more, all_not, all_at    rows of tests, one more, one that fails, and any one of those that hold
--   entries_none, entries_more, entries_keep    a lent output with the entries so far in front
--   alphabet-narrow, Narrow, narrow, can_derive    what the checks of the call leave for the passes
use mathlib.Core.Path.{◌≡◌, refl, sym, ap, ap₂, subst, ◌∙◌}
use mathlib.Core.Bool.{Bool, true, false}
use mathlib.Core.Logic.{◌⊎◌, inl, inr}
use mathlib.Core.List.{List, ◌++◌}
use Prim.Native.Nat.{ℕ, zero, suc, ◌+◌, ◌-◌, ◌≤◌, ◌<◌}
use native.Mathlib.Nat.{eq-or-lt_of_le, le_of_suc-le-suc, suc_inj}
use native.Mathlib.Numerals.{add-one}
use native.Mathlib.Omega.{arith}
use borrow.Author.Tests.{ltb-false}
use lib.Dec.{ltb}
use lib.ListN.{length, get_or, drop, set, length-append, length-drop}
use lib.Seq.{drop-cons, set_at, append_snoc}
use lib.IntN.{ℤ, pos, ◌*ℤ◌}
use Rattle.pascal.proofs.Choose.{choose_none, choose_some}
use Rattle.words.specs.declared.Family.TheVariants.{Allowed}
use Rattle.words.specs.Pick.{pick}
use Rattle.words.specs.Word.{Word, shifted, unshifted, shifted_alphabet, count}
use Rattle.words.specs.Rank.{rank_of}
use Rattle.words.specs.Unrank.{unrank_of}
use Rattle.words.specs.Next.{first, next}
use Rattle.words.specs.Bits.{set_bits}
use Rattle.words.proofs.Rank.{rank_below_count}
use Rattle.words.proofs.Unrank.{unrank_is_a_word, unrank_of_rank, rank_of_unrank, unrank_long, unrank_monotone}
use Rattle.words.proofs.Bits.{set_of_bits}
use Rattle.words.proofs.Shifted.{shifted-monotone, unshifted-shifted}
use Rattle.words.proofs.Next.{next_long, next_monotone, next_rank}
use Rattle.words.proofs.Ends.{first_is_unrank_zero}
use Rattle.merging.specs.Sorting.{insert}
use Rattle.derivatives.specs.Derivative.{entries_of}
use Rattle.derivatives.proofs.Inserted.{insert-word, insert-many, occurs_at_most}
use Rattle.derivatives.proofs.Whole.{entries_long}
use Rattle.products.specs.Range.{inside}
use Rattle.adding.specs.Places.{spelled, Placed, Movable}
use Rattle.derivative.specs.Rules.{entry_at, all_inside, Deriving}

-- ---- the walk

pub placed_first : (s k b q t : ℕ) → Placed s (first Allowed k) b q t → Placed s (unrank_of Allowed k 0) b q t
placed_first s k b q t p = subst (λ (w : List ℕ). Placed s w b q t) (sym (first_is_unrank_zero Allowed k)) p

module _ (k s m : ℕ) (c : List ℤ) (d : Deriving k s m c) (r : ℕ) where
  word_at : r < m → Word Allowed d.alphabet k (unrank_of Allowed k r)
  word_at h = unrank_is_a_word Allowed d.alphabet k r (omega (arith, d.size))

  rank-at : r < m → rank_of Allowed (unrank_of Allowed k r) ≡ r
  rank-at h = rank_of_unrank Allowed d.alphabet k r (omega (arith, d.size))

  -- a degree of which there is more than one word is not 0
  has-symbols : suc r < m → 0 < k
  has-symbols h = go k refl
    where
      go : (j : ℕ) → j ≡ k → 0 < j
      go zero e = absurd (omega (arith, d.size, ap (count Allowed d.alphabet) e, choose_none d.alphabet))
      go (suc j) e = omega arith

  next-at : suc r < m → next Allowed (unrank_of Allowed k r) ≡ unrank_of Allowed k (suc r)
  next-at h =
      let p : 0 < length (unrank_of Allowed k r) = omega (arith, unrank_long Allowed k r, has-symbols h) in
      sym (unrank_of_rank Allowed (next Allowed (unrank_of Allowed k r)) (next_monotone Allowed (unrank_of Allowed k r) (unrank_monotone Allowed k r)))
      ∙ ap₂ (unrank_of Allowed) (next_long Allowed (unrank_of Allowed k r) ∙ unrank_long Allowed k r)
      (next_rank Allowed (unrank_of Allowed k r) p (unrank_monotone Allowed k r) ∙ ap suc (rank-at (omega arith)))

  module _ (b q t : ℕ) (p : Placed s (unrank_of Allowed k r) b q t) where
    pub can-move : suc r < m → Movable s b q t
    can-move h =
        record {
          alphabet = d.alphabet;
          degree = k;
          word = unrank_of Allowed k r;
          placed = p;
          is = word_at (omega arith);
          low = d.low;
          width = d.width;
          more = omega (arith, d.size, rank-at (omega arith));
        }

    spelled_at : spelled b ≡ unrank_of Allowed k r
    spelled_at =
        ap (unshifted Allowed) (ap set_bits p.bits ∙ set_of_bits (shifted Allowed (unrank_of Allowed k r)) ((shifted-monotone Allowed (unrank_of Allowed k r)).0 (unrank_monotone Allowed k r)))
        ∙ unshifted-shifted Allowed (unrank_of Allowed k r)

    pub placed-next : suc r < m → (b' q' t' : ℕ) → Placed s (next Allowed (spelled b)) b' q' t' → Placed s (unrank_of Allowed k (r + 1)) b' q' t'
    placed-next h b' q' t' x =
        subst (λ (w : List ℕ). Placed s w b' q' t') (ap (next Allowed) spelled_at ∙ next-at h ∙ ap (unrank_of Allowed k) (sym (add-one r))) x

-- ---- one entry of a pass

pub record Pass (k s : ℕ) (c : List ℤ) (r q t : ℕ) : Type 0 where
  pub within : q < length c
  pub some : 1 ≤ t
  pub few : t ≤ 64
  pub is : get_or c q (pos 0) *ℤ pos t ≡ entry_at k s c r

pub pass : (k s m : ℕ) (c : List ℤ) (d : Deriving k s m c) (r b q t : ℕ) → Placed s (unrank_of Allowed k r) b q t → r < m → Pass k s c r q t
pass k s m c d r b q t p h =
    let a : Word Allowed d.alphabet (suc k) (insert s (unrank_of Allowed k r)) = insert-word d.alphabet k s (unrank_of Allowed k r) d.low (word_at k s m c d r h) in
    record {
      within = omega (arith, p.rank, d.given, rank_below_count Allowed d.alphabet (suc k) (insert s (unrank_of Allowed k r)) a);
      some = omega (arith, p.times, insert-many s (unrank_of Allowed k r));
      few = omega (arith, p.times, occurs_at_most s (insert s (unrank_of Allowed k r)), a.long, d.width, d.low);
      is = ap₂ (λ (i j : ℕ). get_or c i (pos 0) *ℤ pos j) p.rank p.times;
    }

count_some : (n k : ℕ) → 0 < n → 0 < count Allowed n k
count_some n zero h = omega (arith, choose_none n)
count_some n (suc k) h = choose_some (n + k) (suc k) (omega arith)

pub some_entries : (k s m : ℕ) (c : List ℤ) → Deriving k s m c → 0 < m
some_entries k s m c d = omega (arith, d.size, count_some d.alphabet k (omega (arith, d.low)))

-- ---- rows of tests

pub all_none : (f : ℕ → ℤ) → all_inside f 0 ≡ true
unfolding all_inside
all_none f = refl

pub all_more : (f : ℕ → ℤ) (i : ℕ) → all_inside f i ≡ true → all_inside f (i + 1) ≡ inside (f i)
unfolding all_inside
all_more f i e = ap (all_inside f) (add-one i) ∙ rw e refl

pub all_at : (f : ℕ → ℤ) (m i : ℕ) → all_inside f m ≡ true → i < m → inside (f i) ≡ true
unfolding all_inside
all_at f zero i e h = absurd (omega arith)
all_at f (suc m) i e h = go (all_inside f m) refl e (all_at f m i) (eq-or-lt_of_le h)
  where
    go : (t : Bool) → all_inside f m ≡ t → pick t (inside (f m)) false ≡ true → (all_inside f m ≡ true → i < m → inside (f i) ≡ true) → (suc i ≡ suc m) ⊎ (suc i < suc m) → inside (f i) ≡ true
    go false p q ih d = absurd (let z : ◌≡◌ {A = ℕ} 0 1 = cc in omega arith)
    go true p q ih (inl d) = ap (λ (j : ℕ). inside (f j)) (suc_inj d) ∙ q
    go true p q ih (inr d) = ih p (le_of_suc-le-suc d)

-- one entry out of the range is enough
pub all_not : (f : ℕ → ℤ) (m i : ℕ) → i < m → inside (f i) ≡ false → false ≡ all_inside f m
all_not f m i h e = go (all_inside f m) refl
  where
    go : (t : Bool) → all_inside f m ≡ t → false ≡ all_inside f m
    go false p = sym p
    go true p = absurd (let q : inside (f i) ≡ true = all_at f m i p h in let z : ◌≡◌ {A = ℕ} 0 1 = cc in omega arith)

-- ---- the loop that writes

pub entries_none : (f : ℕ → ℤ) (base : List ℤ) → base ≡ entries_of f 0 ++ drop 0 base
unfolding entries_of
entries_none f base = refl

pub entries_more : (f : ℕ → ℤ) (base out : List ℤ) (i : ℕ) (v : ℤ) → i < length base → v ≡ f i → out ≡ entries_of f i ++ drop i base
    → set out i v ≡ entries_of f (i + 1) ++ drop (i + 1) base
unfolding entries_of
entries_more f base out i v h e o =
    ap₂ (λ (l : List ℤ) (x : ℤ). set l i x) (o ∙ ap (λ (l : List ℤ). entries_of f i ++ l) (drop-cons base i (pos 0) h)) e
    ∙ set_at (entries_of f i) (get_or base i (pos 0)) (drop (suc i) base) (f i) i (entries_long f i)
    ∙ sym (append_snoc (entries_of f i) (f i) (drop (suc i) base))
    ∙ ap (λ (j : ℕ). entries_of f j ++ drop j base) (sym (add-one i))

pub entries_keep : (f : ℕ → ℤ) (base out : List ℤ) (i : ℕ) → i ≤ length base → out ≡ entries_of f i ++ drop i base → length out ≡ length base
entries_keep f base out i h e = omega (arith, ap length e, length-append (entries_of f i) (drop i base), entries_long f i, length-drop i base)

-- ---- what the checks leave

pub alphabet-narrow : (n k : ℕ) → n + k ≤ 65 → n ≤ 64 → shifted_alphabet Allowed n k ≤ 64
alphabet-narrow n zero h l = l
alphabet-narrow n (suc k) h l = omega arith

pub record Narrow (n k : ℕ) : Type 0 where
  pub alphabet : n ≤ 64
  pub table : n + k ≤ 65
  pub result : n + (k - 1) ≤ 64

pub narrow : (n k : ℕ) → k ≤ 64 → 0 < k → ltb 64 (shifted_alphabet Allowed n k) ≡ false → Narrow n k
narrow n zero l h e = absurd (omega arith)
narrow n (suc k) l h e =
    let t : n + k ≤ 64 = ltb-false 64 (n + k) e in
    record { alphabet = omega arith; table = omega arith; result = omega arith }

pub can_derive : (n k s m : ℕ) (c : List ℤ) → Narrow n k → 0 < k → s < n → length c ≡ count Allowed n k → m ≡ count Allowed n (k - 1) → Deriving (k - 1) s m c
can_derive n k s m c w h l e z =
    let q : k ≡ suc (k - 1) = omega arith in
    record { alphabet = n; width = w.result; low = l; size = z; given = e ∙ ap (count Allowed n) q }
