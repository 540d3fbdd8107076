-- The laws of the list of cells, by one test of the rows 0 to 64 that antt computes. Assumes nothing.
--   cell_is_entry    the cell at the place of a coefficient is that coefficient
--   place-small    the places are below 1024
--   square_small    the square of which a place is made is a machine word
--   no_such_part    past the last part stands 0
--   next_row    where the next row begins
use mathlib.Core.Path.{◌≡◌, refl, sym, ap, ◌∙◌}
use mathlib.Core.Bool.{Bool, true}
use mathlib.Core.List.{List, []}
use Prim.Native.Nat.{ℕ, ◌+◌, ◌-◌, ◌*◌, ◌/◌, ◌%◌, ◌^◌, ◌≤◌, ◌<◌, zero-le}
use native.Mathlib.Nat.{mul-le-mul}
use native.Mathlib.Omega.{arith}
use borrow.Author.Tests.{le-leb, lt-ltb}
use lib.Dec.{T, leb, ltb, eqb, eqb→eq, ltb→lt}
use lib.ListN.{length, get_or, get_or-eq_default}
use Rattle.words.specs.Pick.{pick}
use Rattle.pascal.specs.Choose.{choose}
use Rattle.pascal.specs.Row.{entry}
use Rattle.pascal.proofs.Row.{entry_is_choose, triangle_at}
use Rattle.triangle.specs.Parts.{parts}
use Rattle.triangle.specs.Cells.{cell_of, place}

abbrev where_needed : ℕ → ℕ → Bool → Bool
where_needed m k b = pick (ltb 0 k) (pick (leb (k + k) m) b true) true

abbrev holds : ℕ → ℕ → ℕ → Bool
holds m k x = where_needed m k (eqb (cell_of (place m k / 64) (place m k % 64)) x)

abbrev small : ℕ → ℕ → ℕ → Bool
small m k x = where_needed m k (ltb (place m k) 1024)

abbrev begins : ℕ → ℕ → ℕ → Bool
begins m k x = eqb (m * m / 4) ((m - 1) * (m - 1) / 4 + m / 2)

needed : (n k : ℕ) (b : Bool) → 0 < k → k + k ≤ n → T (where_needed n k b) → T b
needed n k b p l t = rw (lt-ltb 0 k p, le-leb (k + k) n l) at t

pub cell_is_entry : (n k : ℕ) → n ≤ 64 → 0 < k → k + k ≤ n → cell_of (place n k / 64) (place n k % 64) ≡ entry n k
cell_is_entry n k h p l =
    eqb→eq (cell_of (place n k / 64) (place n k % 64)) (choose n k)
    (needed n k (eqb (cell_of (place n k / 64) (place n k % 64)) (choose n k)) p l (triangle_at holds 64 tt n k h (omega arith)))
    ∙ sym (entry_is_choose n k)

pub place-small : (n k : ℕ) → n ≤ 64 → 0 < k → k + k ≤ n → place n k < 1024
place-small n k h p l = ltb→lt (place n k) 1024 (needed n k (ltb (place n k) 1024) p l (triangle_at small 64 tt n k h (omega arith)))

pub no_such_part : (h i : ℕ) → 15 < h → cell_of h i ≡ 0
no_such_part h i l =
    let e : length parts ≡ 16 = refl in
    let m : length parts ≤ h = omega (arith, e, l) in
    ap (λ (w : List ℕ). get_or w i 0) (get_or-eq_default parts [] m)

pub square_small : (n : ℕ) → n ≤ 64 → (n - 1) * (n - 1) < 2 ^ 64
square_small n h =
    let e : n - 1 ≤ 63 = omega arith in
    let l : (n - 1) * (n - 1) ≤ 63 * 63 = mul-le-mul e e in
    omega (arith, l)

pub next_row : (n : ℕ) → n ≤ 64 → n * n / 4 ≡ (n - 1) * (n - 1) / 4 + n / 2
next_row n h = eqb→eq (n * n / 4) ((n - 1) * (n - 1) / 4 + n / 2) (triangle_at begins 64 tt n 0 h zero-le)
