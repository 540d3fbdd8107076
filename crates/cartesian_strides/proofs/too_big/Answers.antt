-- `cartesian_strides::too_big` meets its contract. The invariant: the product of the radices passed, and that none on the way was 2^64 or more. Assumes nothing.
use mathlib.Core.Path.{sym, ap, ◌∙◌}
use Prim.Native.Nat.{ℕ, ◌*◌, ◌^◌, ◌<◌}
use native.Mathlib.Omega.{arith}
use lib.Dec.{leb}
use lib.Seq.{length-take-le, get_or-take}
use Rattle.cartesian_strides.proofs.Products.{partial_starts, partial_turn, partial_stops, partial_ends}
use Rattle.cartesian_strides.proofs.too_big.Goals as goal

pub loop-r-init : goal.loop-r-init
loop-r-init c = partial_starts c.args.radices.now

pub returns-then-exceeds : goal.returns-then-exceeds
returns-then-exceeds c =
    let h : c.loop-r.r-index < c.args.upto = omega (arith, length-take-le c.args.upto c.args.radices.now c.requires) in
    let e = get_or-take c.args.upto c.args.radices.now c.loop-r.r-index 0 h in
    partial_stops c.args.radices.now c.args.upto c.loop-r.stride c.loop-r.r-index c.loop-r.invariant h (omega arith) (ap (λ (r : ℕ). leb (2 ^ 64) (c.loop-r.stride * r)) (sym e) ∙ sym c.exceeds.ensures ∙ c.if-exceeds.true)

pub loop-r-preserved : goal.loop-r-preserved
loop-r-preserved c =
    let h : c.loop-r.r-index < c.args.upto = omega (arith, length-take-le c.args.upto c.args.radices.now c.requires) in
    rw (get_or-take c.args.upto c.args.radices.now c.loop-r.r-index 0 h)
    (partial_turn c.args.radices.now c.loop-r.stride c.loop-r.r-index c.loop-r.invariant (omega arith) (rw (get_or-take c.args.upto c.args.radices.now c.loop-r.r-index 0 h) at (sym c.exceeds.ensures ∙ c.if-exceeds.false)))

pub returns : goal.returns
returns c =
    partial_ends c.args.radices.now c.args.upto c.loop-r.stride c.loop-r.r-index c.loop-r.invariant (omega (arith, length-take-le c.args.upto c.args.radices.now c.requires))
