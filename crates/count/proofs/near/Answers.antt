-- `count::near` meets its contract: the place of the coefficient in the list is a part and a place of it. Assumes nothing.
use mathlib.Core.Path.{◌≡◌, ap, ◌∙◌}
use Prim.Native.Nat.{ℕ, ◌/◌, ◌%◌}
use native.Mathlib.Omega.{arith}
use Rattle.triangle.specs.Cells.{cell_of, place}
use Rattle.triangle.proofs.Cells.{cell_is_entry, place-small, square_small}
use Rattle.count.proofs.near.Goals as goal

pub overflow_sub-i : goal.overflow_sub-i
overflow_sub-i c = omega arith

pub overflow_sub-i-2 : goal.overflow_sub-i-2
overflow_sub-i-2 c = omega arith

pub overflow_mul-i : goal.overflow_mul-i
overflow_mul-i c = omega (arith, square_small c.args.n c.requires.0)

pub overflow_sub-i-3 : goal.overflow_sub-i-3
overflow_sub-i-3 c = omega arith

pub overflow_add-i : goal.overflow_add-i
overflow_add-i c = omega (arith, place-small c.args.n c.args.k c.requires.0 c.requires.1 c.requires.2)

pub by_part-requires : goal.by_part-requires
by_part-requires c = omega arith

pub returns : goal.returns
returns c =
    let n : ℕ = c.args.n in
    let k : ℕ = c.args.k in
    let l = place-small n k c.requires.0 c.requires.1 c.requires.2 in
    let q : place n k / 64 % 16 ≡ place n k / 64 = omega (arith, l) in
    c.by_part.ensures ∙ ap (λ (h : ℕ). cell_of h (place n k % 64)) q ∙ cell_is_entry n k c.requires.0 c.requires.1 c.requires.2
