-- `derivative::judge` meets its contract: the walk stands at the word of each rank in turn, and every entry passed is in the range. Assumes nothing.
use mathlib.Core.Path.{◌≡◌, sym, ap, ◌∙◌}
use Prim.Native.Nat.{◌+◌}
use native.Mathlib.Omega.{arith}
use Rattle.products.specs.Range.{inside}
use Rattle.derivative.specs.Rules.{entry_at, all_inside}
use Rattle.derivative.proofs.Passes.{placed_first, placed-next, can-move, pass, some_entries, all_none, all_more, all_not}
use Rattle.derivative.proofs.judge.Goals as goal

pub overflow_sub-last : goal.overflow_sub-last
overflow_sub-last c = omega (arith, some_entries c.args.k c.args.s c.args.m c.args.table.now c.requires)

pub start-x-requires : goal.start-x-requires
start-x-requires c = omega (arith, c.requires.width, c.requires.low)

pub loop-r-init : goal.loop-r-init
loop-r-init c = (
  omega (arith, some_entries c.args.k c.args.s c.args.m c.args.table.now c.requires),
  all_none (entry_at c.args.k c.args.s c.args.table.now),
  placed_first c.args.s c.args.k c.start-x.result.bits c.start-x.result.rank c.start-x.result.times c.start-x.ensures,
)

pub entry_fits-requires : goal.entry_fits-requires
entry_fits-requires c =
    let p = pass c.args.k c.args.s c.args.m c.args.table.now c.requires c.loop-r._r c.loop-r.x.bits c.loop-r.x.rank c.loop-r.x.times c.loop-r.invariant.2 (omega (arith, c.loop-r-test.true, c.loop-r.auto._r-end, c.loop-r.invariant.0)) in
    (p.within, p.some, p.few)

pub returns-then-not-entry_fits : goal.returns-then-not-entry_fits
returns-then-not-entry_fits c =
    all_not (entry_at c.args.k c.args.s c.args.table.now) c.args.m c.loop-r._r (omega (arith, c.loop-r-test.true, c.loop-r.invariant.0))
    (sym (ap inside (pass c.args.k c.args.s c.args.m c.args.table.now c.requires c.loop-r._r c.loop-r.x.bits c.loop-r.x.rank c.loop-r.x.times c.loop-r.invariant.2 (omega (arith, c.loop-r-test.true, c.loop-r.auto._r-end, c.loop-r.invariant.0))).is) ∙ sym c.entry_fits.ensures ∙ c.if-not-entry_fits.true)

pub step-x-requires : goal.step-x-requires
step-x-requires c = can-move c.args.k c.args.s c.args.m c.args.table.now c.requires c.loop-r._r c.loop-r.x.bits c.loop-r.x.rank c.loop-r.x.times c.loop-r.invariant.2 (omega (arith, c.loop-r-test.true, c.loop-r.invariant.0))

pub loop-r-preserved : goal.loop-r-preserved
loop-r-preserved c = (
  c.loop-r.invariant.0,
  all_more (entry_at c.args.k c.args.s c.args.table.now) c.loop-r._r c.loop-r.invariant.1 ∙ sym (ap inside (pass c.args.k c.args.s c.args.m c.args.table.now c.requires c.loop-r._r c.loop-r.x.bits c.loop-r.x.rank c.loop-r.x.times c.loop-r.invariant.2 (omega (arith, c.loop-r-test.true, c.loop-r.auto._r-end, c.loop-r.invariant.0))).is) ∙ sym c.entry_fits.ensures ∙ c.if-not-entry_fits.false,
  placed-next c.args.k c.args.s c.args.m c.args.table.now c.requires c.loop-r._r c.loop-r.x.bits c.loop-r.x.rank c.loop-r.x.times c.loop-r.invariant.2 (omega (arith, c.loop-r-test.true, c.loop-r.invariant.0)) c.step-x.result.bits c.step-x.result.rank c.step-x.result.times c.step-x.ensures,
)

pub entry_fits-requires-2 : goal.entry_fits-requires-2
entry_fits-requires-2 c =
    let p = pass c.args.k c.args.s c.args.m c.args.table.now c.requires c.loop-r._r c.loop-r.x.bits c.loop-r.x.rank c.loop-r.x.times c.loop-r.invariant.2 (omega (arith, c.loop-r-test.false, c.loop-r.auto._r-end, c.loop-r.invariant.0)) in
    (p.within, p.some, p.few)

pub returns : goal.returns
returns c =
    let e : c.loop-r._r + 1 ≡ c.args.m = omega (arith, c.loop-r-test.false, c.loop-r.auto._r-end, c.loop-r.invariant.0) in
    c.entry_fits-2.ensures ∙ ap inside (pass c.args.k c.args.s c.args.m c.args.table.now c.requires c.loop-r._r c.loop-r.x.bits c.loop-r.x.rank c.loop-r.x.times c.loop-r.invariant.2 (omega (arith, c.loop-r-test.false, c.loop-r.auto._r-end, c.loop-r.invariant.0))).is ∙ sym (all_more (entry_at c.args.k c.args.s c.args.table.now) c.loop-r._r c.loop-r.invariant.1) ∙ ap (all_inside (entry_at c.args.k c.args.s c.args.table.now)) e
