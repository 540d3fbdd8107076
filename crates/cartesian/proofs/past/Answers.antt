-- `cartesian::past` meets its contract. The invariant: no radix passed is 0. Assumes nothing.
use mathlib.Core.Path.{sym, ◌∙◌}
use Prim.Native.Nat.{◌<◌}
use native.Mathlib.Omega.{arith}
use lib.Seq.{length-take-le, get_or-take}
use Rattle.cartesian.proofs.Products.{passing_starts, passing_turn, passing_stops, passing_ends}
use Rattle.cartesian.proofs.past.Goals as goal

pub loop-r-init : goal.loop-r-init
loop-r-init c = passing_starts c.args.radices.now

pub returns-then-r-eq0 : goal.returns-then-r-eq0
returns-then-r-eq0 c =
    let h : c.loop-r.r-index < c.args.from = omega (arith, length-take-le c.args.from c.args.radices.now c.requires.0) in
    passing_stops c.args.radices.now c.loop-r.r-index (omega arith) (sym (get_or-take c.args.from c.args.radices.now c.loop-r.r-index 0 h) ∙ c.if-r-eq0.true)

pub loop-r-preserved : goal.loop-r-preserved
loop-r-preserved c =
    let h : c.loop-r.r-index < c.args.from = omega (arith, length-take-le c.args.from c.args.radices.now c.requires.0) in
    passing_turn c.args.radices.now c.loop-r.r-index c.loop-r.invariant (omega arith) (λ e. c.if-r-eq0.false (get_or-take c.args.from c.args.radices.now c.loop-r.r-index 0 h ∙ e))

pub returns : goal.returns
returns c =
    passing_ends c.args.radices.now c.args.from c.loop-r.r-index c.loop-r.invariant (omega (arith, length-take-le c.args.from c.args.radices.now c.requires.0)) c.requires.1
