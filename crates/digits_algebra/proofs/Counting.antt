-- The loops that count a symbol, and that multiply up the stabilizer, over the first symbols of a slice. Assumes nothing.
--   counted_turn    how often a symbol has occurred, one symbol more
--   Multiplied w k product i    the first i of the k symbols are multiplied up
--   multiplied_starts, multiplied-turn, multiplied-past, multiplied_ends    before the first symbol, one symbol, a product that is too big on the way, and after the last
use mathlib.Core.Path.{◌≡◌, refl, sym, ap, ap₂, subst, ◌∙◌}
use mathlib.Core.Logic.{◌⊎◌, inl, inr}
use mathlib.Core.List.{List, [], ◌∷◌, ◌++◌}
use Prim.Native.Nat.{ℕ, suc, ◌+◌, ◌*◌, ◌^◌, ◌≤◌, ◌<◌}
use native.Mathlib.Numerals.{add-one}
use native.Mathlib.Omega.{arith}
use lib.ListN.{length, get_or, take, drop, take-append-drop}
use lib.Seq.{take-suc, take-take, get_or-take, length-take-le}
use Rattle.words.specs.Inversions.{multiplicity}
use Rattle.words.proofs.Inversions.{multiplicity_same, multiplicity-other}
use Rattle.words.proofs.Positions.{below_at}
use Rattle.deletion.specs.Multiplicities.{ceiling_of, stabilizer_below, stabilizer_of}
use Rattle.deletion.proofs.Multiplicities.{below_ceiling, stabilizer_none, stabilizer_more, stabilizer_grows}

one_more : (w : List ℕ) (i : ℕ) → i < length w → take (i + 1) w ≡ take i w ++ get_or w i 0 ∷ []
one_more w i h = ap (λ (j : ℕ). take j w) (add-one i) ∙ take-suc w i 0 h

-- ---- how often s has occurred: n times before position i, m times with it

pub counted_turn : (w : List ℕ) (s i n m : ℕ) → i < length w → n ≡ multiplicity s (take i w)
    → ((get_or w i 0 ≡ s) × (m ≡ n + 1)) ⊎ ((get_or w i 0 ≡ s → ⊥) × (m ≡ n)) → m ≡ multiplicity s (take (i + 1) w)
counted_turn w s i n m h e (inl q) =
    q.1 ∙ add-one n ∙ ap suc e ∙ sym (ap (multiplicity s) (one_more w i h) ∙ multiplicity_same s (get_or w i 0) (take i w) q.0)
counted_turn w s i n m h e (inr q) =
    q.1 ∙ e ∙ sym (ap (multiplicity s) (one_more w i h) ∙ multiplicity-other s (get_or w i 0) (take i w) q.0)

-- ---- the product over the first k symbols

pub record Multiplied (w : List ℕ) (k product i : ℕ) : Type 0 where
  pub is : product ≡ stabilizer_below (ceiling_of (take k w)) (take i w)
  pub small : product < 2 ^ 64

pub multiplied_starts : (w : List ℕ) (k : ℕ) → Multiplied w k 1 0
multiplied_starts w k = record { is = sym (stabilizer_none (ceiling_of (take k w))); small = omega arith }

module _ (w : List ℕ) (k product i times : ℕ) (fits : k ≤ length w) (within : i < k) (p : Multiplied w k product i)
    (often : times ≡ multiplicity (get_or w i 0) (take (i + 1) w)) where
  passed : product * times ≡ stabilizer_below (ceiling_of (take k w)) (take (i + 1) w)
  passed =
      let x : ℕ = get_or w i 0 in
      let c : ℕ = ceiling_of (take k w) in
      let e : take (i + 1) w ≡ take i w ++ x ∷ [] = one_more w i (omega arith) in
      let l : x < c = subst (λ (y : ℕ). y < c) (get_or-take k w i 0 within) ((below_at c (take k w)).0 (below_ceiling (take k w)) i (omega (arith, length-take-le k w fits))) in
      ap₂ (λ (a b : ℕ). a * b) p.is (often ∙ ap (multiplicity x) e ∙ multiplicity_same x x (take i w) refl)
      ∙ sym (ap (stabilizer_below c) e ∙ stabilizer_more c x (take i w) l)

  pub multiplied-turn : product * times < 2 ^ 64 → Multiplied w k (product * times) (i + 1)
  multiplied-turn h = record { is = passed; small = h }

  pub multiplied-past : 2 ^ 64 ≤ product * times → 2 ^ 64 ≤ stabilizer_of (take k w)
  multiplied-past h =
      let c : ℕ = ceiling_of (take k w) in
      let e : take (i + 1) w ++ drop (i + 1) (take k w) ≡ take k w = ap (λ (u : List ℕ). u ++ drop (i + 1) (take k w)) (sym (take-take (i + 1) k w (omega arith))) ∙ take-append-drop (i + 1) (take k w) in
      omega (arith, passed, stabilizer_grows c (take (i + 1) w) (drop (i + 1) (take k w)), ap (stabilizer_below c) e)

pub multiplied_ends : (w : List ℕ) (k product i : ℕ) → Multiplied w k product i → i ≡ k → product ≡ stabilizer_of (take k w)
multiplied_ends w k product i p e = p.is ∙ ap (λ (j : ℕ). stabilizer_below (ceiling_of (take k w)) (take j w)) e
