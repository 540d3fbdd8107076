-- A fresh array that is filled place by place, and becomes the record of a list. Assumes nothing.
--   at w    what stands at a place of w
--   filled_record    filled to the end with what w holds, zeros and the length make it the record of w
--   Inverted w n i out    the entries of w before place i have their places stored at them, and from place n up stand zeros
--   invert_none, invert_more, inverted_all    the same for the inverse
use mathlib.Core.Path.{◌≡◌, refl, sym, ap, ap₂, subst, ◌∙◌}
use mathlib.Core.List.{List}
use Prim.Native.Nat.{ℕ, ◌+◌, ◌≤◌, ◌<◌}
use native.Mathlib.Decide.{ℕ_discrete}
use native.Mathlib.Omega.{arith}
use lib.ListN.{length, get_or, set, length-set}
use lib.Seq.{get_or-set_same, get_or-set_other}
use Rattle.arrangements.specs.Permutation.{Permutation, inverse}
use Rattle.arrangements.proofs.Places.{ByPlaces, by_places}
use Rattle.arrangements.proofs.Group.{inverse-place}
use Rattle.answers.proofs.Lent.{Filled, filled-word}
use Rattle.permutation.specs.declared.Permutation.{Permutation as Record}
use Rattle.permutation.specs.Record.{capacity, empty_entries, record_of}

abbrev pub at : List ℕ → ℕ → ℕ
at w k = get_or w k 0

pub filled_record : (w out : List ℕ) (i n : ℕ) → Filled (at w) empty_entries out i → i ≡ n → length w ≡ n → n ≤ capacity
    → ◌≡◌ {A = Record} (record { entries = out; len = n }) (record_of w)
filled_record w out i n o e l h =
    ap₂ (λ (es : List ℕ) (k : ℕ). record { entries = es; len = k })
    (filled-word (at w) empty_entries out w (omega arith) (λ j k. refl) (subst (Filled (at w) empty_entries out) (e ∙ sym l) o)) (sym l)

-- ---- the inverse

pub record Inverted (w : List ℕ) (n i : ℕ) (out : List ℕ) : Type 0 where
  pub long : length out ≡ capacity
  pub back : (k : ℕ) → k < i → get_or out (get_or w k 0) 0 ≡ k
  pub past : (k : ℕ) → n ≤ k → get_or out k 0 ≡ get_or empty_entries k 0

pub invert_none : (w : List ℕ) (n : ℕ) → Inverted w n 0 empty_entries
invert_none w n = record { long = refl; back = λ k h. omega arith; past = λ k h. refl }

pub invert_more : (w : List ℕ) (n i : ℕ) (out : List ℕ) → Permutation n w → n ≤ capacity → i < n → Inverted w n i out → Inverted w n (i + 1) (set out (get_or w i 0) i)
invert_more w n i out p l h o =
    record {
      long = length-set out (get_or w i 0) i ∙ o.long;
      back = λ k g. back k (ℕ_discrete k i) g;
      past = λ k g. get_or-set_other out (get_or w i 0) k i 0 (λ q. omega (arith, places.below i h)) ∙ o.past k g;
    }
  where
    places : ByPlaces n w
    places = by_places n w p

    back : (k : ℕ) → Dec (k ≡ i) → k < i + 1 → get_or (set out (get_or w i 0) i) (get_or w k 0) 0 ≡ k
    back k (yes q) g =
        subst (λ (j : ℕ). get_or (set out (get_or w i 0) i) (get_or w j 0) 0 ≡ j) (sym q)
        (get_or-set_same out (get_or w i 0) i 0 (omega (arith, places.below i h, o.long)))
    back k (no q) g =
        get_or-set_other out (get_or w i 0) (get_or w k 0) i 0 (λ e. q (places.apart k i (omega arith) h e)) ∙ o.back k (omega arith)

pub inverted_all : (w : List ℕ) (n i : ℕ) (out : List ℕ) → Permutation n w → n ≤ i → Inverted w n i out → Filled (at (inverse w)) empty_entries out n
inverted_all w n i out p l o = record { long = o.long; done = done; rest = o.past }
  where
    done : (v : ℕ) → v < n → get_or out v 0 ≡ get_or (inverse w) v 0
    done v h =
        ap (λ (u : ℕ). get_or out u 0) (sym (inverse-place n w p v h).1) ∙ o.back (get_or (inverse w) v 0) (omega (arith, (inverse-place n w p v h).0))
