-- Nothing but zeros past the length of a record. Assumes nothing.
--   past-tells, past-passes    these places are zeros only exactly where each of them holds 0
--   Scanned w i all    all joins the first i entries of w bit by bit, and so is 0 exactly where they are
--   scan_none, scan_more    it holds where the scan begins, and after one place more
--   scan-finds-none, scan-finds-some    what the scan to the end finds
--   the-rest    all that stands from place n up in a record's entries, as a program takes it
use mathlib.Core.Path.{◌≡◌, refl, sym, ap₂, subst, ◌∙◌}
use mathlib.Core.Bool.{Bool, true, false, true≢false}
use mathlib.Core.List.{List, [], ◌∷◌}
use Prim.Native.Nat.{ℕ, zero, suc, ◌+◌, ◌-◌, ◌≤◌, ◌<◌}
use native.Mathlib.Omega.{arith}
use borrow.Author.Count.{below_more}
use borrow.Author.Tests.{eqb-true, eq-eqb}
use lib.Bits.{bit_or, or_add_and, and_le_l, and_le_r}
use lib.Dec.{eqb}
use lib.ListN.{length, get_or, take, drop, length-drop}
use lib.Seq.{take_all}
use lib.Seq.{get_or-drop}
use Rattle.words.specs.Pick.{pick}
use Rattle.permutation.specs.Record.{capacity, zeros_only}

-- ---- lists of zeros

zeros_tell : (w : List ℕ) → zeros_only w ≡ true → (i : ℕ) → get_or w i 0 ≡ 0
unfolding zeros_only
zeros_tell [] e i = refl
zeros_tell (x ∷ w) e i = go (zeros_tell w) (eqb x 0) refl e i
  where
    go : (zeros_only w ≡ true → (j : ℕ) → get_or w j 0 ≡ 0) → (t : Bool) → eqb x 0 ≡ t → pick t (zeros_only w) false ≡ true → (j : ℕ) → get_or (x ∷ w) j 0 ≡ 0
    go later true q f zero = eqb-true x 0 q
    go later true q f (suc j) = later f j
    go later false q f j = absurd (true≢false (sym f))

zeros-pass : (w : List ℕ) → ((i : ℕ) → i < length w → get_or w i 0 ≡ 0) → zeros_only w ≡ true
unfolding zeros_only
zeros-pass [] h = refl
zeros-pass (x ∷ w) h = simp (eq-eqb x 0 (h 0 (omega arith))) (zeros-pass w (λ i l. h (suc i) (omega arith)))

-- ---- the places past the length

module _ (e : List ℕ) (n : ℕ) where
  pub past-tells : zeros_only (drop n e) ≡ true → (i : ℕ) → n ≤ i → get_or e i 0 ≡ 0
  past-tells z i h =
      let back : n + (i - n) ≡ i = omega arith in
      subst (λ (k : ℕ). get_or e k 0 ≡ 0) back (sym (get_or-drop n e (i - n) 0) ∙ zeros_tell (drop n e) z (i - n))

  pub past-passes : ((i : ℕ) → n ≤ i → get_or e i 0 ≡ 0) → zeros_only (drop n e) ≡ true
  past-passes h = zeros-pass (drop n e) (λ i l. get_or-drop n e i 0 ∙ h (n + i) (omega arith))

-- ---- the scan of a list, which joins its entries bit by bit

pub record Scanned (w : List ℕ) (i all : ℕ) : Type 0 where
  pub none : all ≡ 0 → (k : ℕ) → k < i → get_or w k 0 ≡ 0
  pub some : ((k : ℕ) → k < i → get_or w k 0 ≡ 0) → all ≡ 0

or_none : (a b : ℕ) → bit_or a b ≡ 0 → (a ≡ 0) × (b ≡ 0)
or_none a b e = (omega (arith, e, or_add_and a b, and_le_r a b), omega (arith, e, or_add_and a b, and_le_l a b))

pub scan_none : (w : List ℕ) → Scanned w 0 0
scan_none w = record { none = λ q k l. absurd (omega arith); some = λ h. refl }

pub scan_more : (w : List ℕ) (i all : ℕ) → Scanned w i all → Scanned w (i + 1) (bit_or all (get_or w i 0))
scan_more w i all s =
    record {
      none = λ q. below_more (λ k. get_or w k 0 ≡ 0) i (s.none (or_none all (get_or w i 0) q).0) (or_none all (get_or w i 0) q).1;
      some = λ h. ap₂ bit_or (s.some (λ k l. h k (omega arith))) (h i (omega arith));
    }

module _ (w : List ℕ) (i all : ℕ) (h : length w ≤ i) (s : Scanned w i all) where
  pub scan-finds-none : all ≡ 0 → zeros_only w ≡ true
  scan-finds-none q = zeros-pass w (λ k m. s.none q k (omega arith))

  pub scan-finds-some : (all ≡ 0 → ⊥) → zeros_only w ≡ false
  scan-finds-some q = go (zeros_only w) refl
    where
      go : (t : Bool) → zeros_only w ≡ t → zeros_only w ≡ false
      go true z = absurd (q (s.some (λ k l. zeros_tell w z k)))
      go false z = z

pub the-rest : (e : List ℕ) (n : ℕ) → length e ≡ capacity → take (capacity - n) (drop n e) ≡ drop n e
the-rest e n l = take_all (capacity - n) (drop n e) (omega (arith, length-drop n e))
