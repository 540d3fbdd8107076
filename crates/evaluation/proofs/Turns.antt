-- One turn of each loop of the evaluation. Assumes nothing.
--   one_term, no_term    what is left to add from rank j on is the term of rank j and what is left from the next; after the last rank nothing is
--   highest_none, highest_more    the highest degree of no row, and of one row more
--   none_above, highest_below    no row has a degree above the highest, which is below what every row's is below
use mathlib.Core.List.{List}
use mathlib.Core.Logic.{⊎_elim}
use mathlib.Core.Path.{◌≡◌, refl, ap}
use Prim.Native.Nat.{ℕ, zero, suc, ◌+◌, ◌-◌, ◌*◌, ◌≤◌, ◌<◌, max}
use native.Mathlib.Omega.{arith}
use native.Mathlib.Nat.{eq-or-lt_of_le, le-max_left, le-max_right, max-le}
use lib.Ieee.{Float, binary64, of_bits, add, mul}
use Rattle.little_endian.specs.Bytes.{number_at}
use Rattle.image_rules.specs.Image.{degree_at}
use Rattle.surface.specs.Mass.{add_terms}
use Rattle.surface.specs.Surface.{numbers_at}
use Rattle.evaluation.specs.Rows.{highest_degree}

-- ---- the terms of a table

pub one_term : (m : ℕ → Float) (l : List ℕ) (at k j : ℕ) (sum : Float) → j ≤ k
    → add_terms m (j + 1) (numbers_at l (at + 8 * (j + 1)) (k + 1 - (j + 1))) (add binary64 sum (mul binary64 (of_bits binary64 (number_at l (at + 8 * j) 8)) (m j))) ≡ add_terms m j (numbers_at l (at + 8 * j) (k + 1 - j)) sum
unfolding add_terms numbers_at
one_term m l at k j sum h =
    let n : k + 1 - j ≡ suc (k + 1 - (j + 1)) = omega arith in
    let i : j + 1 ≡ suc j = omega arith in
    let place : at + 8 * (j + 1) ≡ at + 8 * j + 8 = omega arith in
    rw (n, place, i)

pub no_term : (m : ℕ → Float) (l : List ℕ) (at k : ℕ) (sum : Float) → add_terms m (k + 1) (numbers_at l at (k + 1 - (k + 1))) sum ≡ sum
unfolding add_terms numbers_at
no_term m l at k sum = let n : k + 1 - (k + 1) ≡ 0 = omega arith in rw n

-- ---- the highest degree

pub highest_none : (l : List ℕ) → 0 ≡ highest_degree l 0
unfolding highest_degree
highest_none l = refl

pub highest_more : (l : List ℕ) (i : ℕ) → max (highest_degree l i) (degree_at l i) ≡ highest_degree l (i + 1)
unfolding highest_degree
highest_more l i = let e : suc i ≡ i + 1 = omega arith in ap (highest_degree l) e

pub none_above : (l : List ℕ) (t i : ℕ) → i < t → degree_at l i ≤ highest_degree l t
unfolding highest_degree
none_above l zero i h = absurd (omega arith)
none_above l (suc t) i h =
    ⊎_elim
    (λ (e : i ≡ t). omega (arith, ap (degree_at l) e, le-max_right (highest_degree l t) (degree_at l t)))
    (λ (e : i < t). omega (arith, none_above l t i e, le-max_left (highest_degree l t) (degree_at l t)))
    (eq-or-lt_of_le (let w : i ≤ t = omega arith in w))

-- every degree is below a bound that each row keeps to
pub highest_below : (l : List ℕ) (t b : ℕ) → 0 < b → ((i : ℕ) → i < t → degree_at l i < b) → highest_degree l t < b
unfolding highest_degree
highest_below l zero b z h = z
highest_below l (suc t) b z h =
    let p = highest_below l t b z (λ i q. h i (omega arith)) in
    let q = h t (omega arith) in
    let m = max-le {k = b - 1} (let x : highest_degree l t ≤ b - 1 = omega arith in x) (let x : degree_at l t ≤ b - 1 = omega arith in x) in
    omega (arith, m)
