-- What the record of a permutation and the image promise, over what the calls say (01, "Permutations"). Assumes nothing.
--   taken_exactly, too_long_exactly, not_a_permutation_exactly    which records are taken, and why the others are refused
--   Judged, judged    a record is too long, or holds no permutation, or holds one
--   past_the_length_is_refused    whatever stands past the length but 0 is refused with 10
--   one_record    two records that are taken are equal exactly if they are the same permutation: of one length, and with the same image of every place
--   given_is_taken    the record of a permutation is taken again
--   image-exactly, outside-exactly    the image of a place, and 7
use mathlib.Core.Path.{◌≡◌, refl, sym, ap, ap₂, ◌∙◌}
use mathlib.Core.Logic.{◌↔◌}
use mathlib.Core.Bool.{Bool, true, false, true≢false}
use mathlib.Core.List.{List}
use Prim.Native.Nat.{ℕ, ◌≤◌, ◌<◌}
use native.Mathlib.Decide.{dec_le}
use native.Mathlib.Omega.{arith}
use borrow.Author.Tests.{ltb-true, ltb-false, leb-false, le-leb, lt-leb}
use lib.Dec.{leb}
use lib.ListN.{get_or}
use lib.Seq.{ext_get_or}
use Rattle.arrangements.specs.Permutation.{Permutation as IsPermutation}
use Rattle.answers.specs.Says.{refuses, gives, refused_if}
use Rattle.answers.proofs.Says.{gives_same, refuses_same, gives_no_refusal, passed, then_gave}
use Rattle.permutation.specs.declared.Permutation.{Permutation}
use Rattle.permutation.specs.Record.{capacity, arrangement_of, record_of, Whole, GoodRecord}
use Rattle.permutation.specs.Rules.{too_long, is_good, taken_arrangement, image_says}
use Rattle.permutation.proofs.Taken.{word_at, tested_holds, holds_good, taken_holds, holds_taken}
use Rattle.permutation.proofs.Arranging.{word_of_record, record_holds}

-- ---- the records that are taken

pub data Judged (p : Permutation) : Type 0 where
  long : capacity < p.len → taken_arrangement p ≡ refuses 1 → Judged p
  broken : p.len ≤ capacity → (GoodRecord p → ⊥) → taken_arrangement p ≡ refuses 10 → Judged p
  held : GoodRecord p → taken_arrangement p ≡ gives (arrangement_of p) → Judged p

pub judged : (p : Permutation) → Whole p → Judged p
unfolding taken_arrangement
judged p l = go (too_long p.len) refl (is_good p.entries p.len) refl
  where
    go : (s : Bool) → too_long p.len ≡ s → (t : Bool) → is_good p.entries p.len ≡ t → Judged p
    go true a t b = long (ltb-true capacity p.len a) (simp a)
    go false a true b = held (tested_holds p l (ltb-false capacity p.len a) b) (simp (a, b))
    go false a false b =
        broken (ltb-false capacity p.len a) (λ h. true≢false (sym (holds_good p h) ∙ b)) (simp (a, b))

pub taken_exactly : (p : Permutation) → Whole p → (w : List ℕ) → (taken_arrangement p ≡ gives w) ↔ (GoodRecord p × (w ≡ arrangement_of p))
taken_exactly p l w =
    (λ e. (holds_taken p w l e, gives_same w (arrangement_of p) (sym e ∙ taken_holds p (holds_taken p w l e))), λ t. taken_holds p t.0 ∙ ap gives (sym t.1))

pub too_long_exactly : (p : Permutation) → Whole p → (taken_arrangement p ≡ refuses 1) ↔ (capacity < p.len)
too_long_exactly p l = (λ e. to (judged p l) e, λ h. from (judged p l) h)
  where
    to : Judged p → taken_arrangement p ≡ refuses 1 → capacity < p.len
    to (long h t) e = h
    to (broken h n t) e = absurd (omega (arith, refuses_same (taken_arrangement p) 10 1 t e))
    to (held h t) e = absurd (gives_no_refusal (arrangement_of p) 1 (sym t ∙ e))

    from : Judged p → capacity < p.len → taken_arrangement p ≡ refuses 1
    from (long h t) g = t
    from (broken h n t) g = absurd (omega arith)
    from (held h t) g = absurd (omega (arith, h.short))

pub not_a_permutation_exactly : (p : Permutation) → Whole p → (taken_arrangement p ≡ refuses 10) ↔ ((p.len ≤ capacity) × (GoodRecord p → ⊥))
not_a_permutation_exactly p l = (λ e. to (judged p l) e, λ h. from (judged p l) h)
  where
    to : Judged p → taken_arrangement p ≡ refuses 10 → (p.len ≤ capacity) × (GoodRecord p → ⊥)
    to (long h t) e = absurd (omega (arith, refuses_same (taken_arrangement p) 1 10 t e))
    to (broken h n t) e = (h, n)
    to (held h t) e = absurd (gives_no_refusal (arrangement_of p) 10 (sym t ∙ e))

    from : Judged p → (p.len ≤ capacity) × (GoodRecord p → ⊥) → taken_arrangement p ≡ refuses 10
    from (long h t) g = absurd (omega (arith, g.0))
    from (broken h n t) g = t
    from (held h t) g = absurd (g.1 h)

pub past_the_length_is_refused : (p : Permutation) → Whole p → p.len ≤ capacity → (i : ℕ) → p.len ≤ i → (get_or p.entries i 0 ≡ 0 → ⊥) → taken_arrangement p ≡ refuses 10
past_the_length_is_refused p l h i past n = (not_a_permutation_exactly p l).1 (h, λ holds. n (holds.past i past))

pub given_is_taken : (n : ℕ) (w : List ℕ) → IsPermutation n w → n ≤ capacity → taken_arrangement (record_of w) ≡ gives w
given_is_taken n w p l = taken_holds (record_of w) (record_holds n w p l) ∙ ap gives (word_of_record w)

-- ---- the image of a place

module _ (p : Permutation) (l : Whole p) (i : ℕ) where
  image-of : GoodRecord p → image_says p i ≡ refused_if (leb p.len i) 7 (gives (get_or (arrangement_of p) i 0))
  image-of h = simp (taken_holds p h)

  pub image-exactly : (x : ℕ) → (image_says p i ≡ gives x) ↔ (GoodRecord p × (i < p.len) × (x ≡ get_or (arrangement_of p) i 0))
  image-exactly x = (to, λ t. image-of t.0 ∙ simp (lt-leb p.len i t.1) (ap gives (sym t.2)))
    where
      to : image_says p i ≡ gives x → GoodRecord p × (i < p.len) × (x ≡ get_or (arrangement_of p) i 0)
      to e =
          let t = then_gave (taken_arrangement p) (λ w. refused_if (leb p.len i) 7 (gives (get_or w i 0))) x e in
          let h = holds_taken p t.0 l t.1 in
          let s = passed (leb p.len i) 7 (gives (get_or (arrangement_of p) i 0)) x (sym (image-of h) ∙ e) in
          (h, leb-false p.len i s.0, gives_same x (get_or (arrangement_of p) i 0) (sym s.1))

  pub outside-exactly : (image_says p i ≡ refuses 7) ↔ (GoodRecord p × (p.len ≤ i))
  outside-exactly = (to (judged p l), λ t. image-of t.0 ∙ simp (le-leb p.len i t.1))
    where
      to : Judged p → image_says p i ≡ refuses 7 → GoodRecord p × (p.len ≤ i)
      to (long h t) e = absurd (omega (arith, refuses_same (image_says p i) 1 7 (simp t) e))
      to (broken h n t) e = absurd (omega (arith, refuses_same (image_says p i) 10 7 (simp t) e))
      to (held h t) e = (h, go (dec_le p.len i))
        where
          go : Dec (p.len ≤ i) → p.len ≤ i
          go (yes q) = q
          go (no q) = absurd (gives_no_refusal (get_or (arrangement_of p) i 0) 7 (sym ((image-exactly (get_or (arrangement_of p) i 0)).1 (h, omega arith, refl)) ∙ e))

-- ---- one record for one permutation

module _ (p q : Permutation) (l : Whole p) (m : Whole q) (u v : List ℕ) (e : taken_arrangement p ≡ gives u) (f : taken_arrangement q ≡ gives v) where
  left : GoodRecord p
  left = holds_taken p u l e

  right : GoodRecord q
  right = holds_taken q v m f

  -- the same image of a place, or nothing there in either
  same-entry : p.len ≡ q.len → ((i : ℕ) → i < p.len → image_says p i ≡ image_says q i) → (i : ℕ) → get_or p.entries i 0 ≡ get_or q.entries i 0
  same-entry n same i = go (dec_le p.len i)
    where
      go : Dec (p.len ≤ i) → get_or p.entries i 0 ≡ get_or q.entries i 0
      go (yes h) = left.past i h ∙ sym (right.past i (omega arith))
      go (no h) =
          sym (word_at p i (omega arith))
          ∙ gives_same (get_or (arrangement_of p) i 0) (get_or (arrangement_of q) i 0)
          (sym ((image-exactly p l i (get_or (arrangement_of p) i 0)).1 (left, omega arith, refl)) ∙ same i (omega arith)
          ∙ (image-exactly q m i (get_or (arrangement_of q) i 0)).1 (right, omega arith, refl))
          ∙ word_at q i (omega arith)

  pub one_record : (p ≡ q) ↔ ((p.len ≡ q.len) × ((i : ℕ) → i < p.len → image_says p i ≡ image_says q i))
  one_record = (
    λ r. (ap (λ (x : Permutation). x.len) r, λ i h. ap (λ (x : Permutation). image_says x i) r),
    λ t. ap₂ (λ (es : List ℕ) (n : ℕ). record { entries = es; len = n })
        (ext_get_or 0 p.entries q.entries (l ∙ sym m) (λ i h. same-entry t.0 t.1 i)) t.0,
  )
