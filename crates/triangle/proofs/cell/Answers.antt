-- `triangle::cell` meets its contract. The invariant: the rest is counted from where row n begins. Assumes nothing.
use mathlib.Core.Path.{◌≡◌, sym, ap, ap₂, subst, ◌∙◌}
use Prim.Native.Nat.{ℕ, ◌+◌, ◌-◌, ◌*◌, ◌/◌, ◌%◌, ◌<◌, ◌≤◌}
use native.Mathlib.Omega.{arith}
use Rattle.pascal.specs.Row.{entry}
use Rattle.triangle.specs.Cells.{cell_of, place}
use Rattle.triangle.proofs.Cells.{cell_is_entry, no_such_part, next_row}
use Rattle.triangle.proofs.cell.Goals as goal

-- the cell is in row n, at the rest
in_row : (n rest h i : ℕ) → 2 ≤ n → n ≤ 64 → i < 64 → rest < n / 2 → (n - 1) * (n - 1) / 4 + rest ≡ h * 64 + i → entry n (rest + 1) ≡ cell_of h i
in_row n rest h i t u l r e =
    let p : place n (rest + 1) ≡ h * 64 + i = omega (arith, e) in
    let q : place n (rest + 1) / 64 ≡ h = omega (arith, p, l) in
    let m : place n (rest + 1) % 64 ≡ i = omega (arith, p, l) in
    sym (cell_is_entry n (rest + 1) u (omega arith) (omega (arith, r))) ∙ ap₂ cell_of q m

pub returns-then-h-gt15 : goal.returns-then-h-gt15
returns-then-h-gt15 c = sym (no_such_part c.args.h c.args.i c.if-h-gt15.true)

pub returns-then-rest-n : goal.returns-then-rest-n
returns-then-rest-n c =
    c.recurrence.ensures ∙ in_row c.loop-n.n c.loop-n.rest c.args.h c.args.i c.loop-n.auto.n (omega (arith, c.loop-n-test.true)) c.requires c.if-rest-n.true c.loop-n.invariant

pub loop-n-preserved : goal.loop-n-preserved
loop-n-preserved c =
    let n : ℕ = c.loop-n.n in
    let m : n + 1 - 1 ≡ n = omega arith in
    let e : n * n / 4 ≡ (n - 1) * (n - 1) / 4 + n / 2 = next_row n (omega (arith, c.loop-n-test.true)) in
    let i : n * n / 4 + (c.loop-n.rest - n / 2) ≡ c.args.h * 64 + c.args.i = omega (arith, e, c.loop-n.invariant, c.if-rest-n.false) in
    ap (λ (k : ℕ). k * k / 4 + (c.loop-n.rest - n / 2)) m ∙ i

pub returns : goal.returns
returns c =
    let e : c.loop-n.n ≡ 64 = omega (arith, c.loop-n.auto.n-end (omega arith), c.loop-n-test.false) in
    let v : (64 - 1) * (64 - 1) / 4 + c.loop-n.rest ≡ c.args.h * 64 + c.args.i = subst (λ (n : ℕ). (n - 1) * (n - 1) / 4 + c.loop-n.rest ≡ c.args.h * 64 + c.args.i) e c.loop-n.invariant in
    c.recurrence-2.ensures ∙ in_row 64 c.loop-n.rest c.args.h c.args.i (omega arith) (omega arith) c.requires (omega (arith, v, c.if-h-gt15.false, c.requires)) v
