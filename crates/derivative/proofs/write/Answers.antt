-- `derivative::write` meets its contract: the walk stands at the word of each rank in turn, and one entry is written a turn. Assumes nothing.
use mathlib.Core.Path.{◌≡◌, ap, ◌∙◌}
use mathlib.Core.List.{◌++◌}
use Prim.Native.Nat.{ℕ, ◌+◌, ◌-◌}
use native.Mathlib.Omega.{arith}
use lib.ListN.{drop}
use mir.Syntax.{w64}
use mir.Val.{SFits}
use mir.ValLaws.{to_z-of_z}
use Rattle.derivatives.specs.Derivative.{entries_of}
use Rattle.products.specs.Range.{inside}
use Rattle.products.proofs.Ranges.{inside_fits}
use Rattle.derivative.specs.Rules.{entry_at}
use Rattle.derivative.proofs.Passes.{placed_first, placed-next, can-move, pass, some_entries, all_at, entries_none, entries_more, entries_keep}
use Rattle.derivative.proofs.write.Goals as goal

pub overflow_sub-last : goal.overflow_sub-last
overflow_sub-last c = omega (arith, some_entries c.args.k c.args.s c.args.m c.args.table.now c.requires.0)

pub start-x-requires : goal.start-x-requires
start-x-requires c = omega (arith, c.requires.0.width, c.requires.0.low)

pub loop-r-init : goal.loop-r-init
loop-r-init c = (
  omega (arith, some_entries c.args.k c.args.s c.args.m c.args.table.now c.requires.0),
  entries_none (entry_at c.args.k c.args.s c.args.table.now) c.args.out.now,
  placed_first c.args.s c.args.k c.start-x.result.bits c.start-x.result.rank c.start-x.result.times c.start-x.ensures,
)

pub entry-y-requires : goal.entry-y-requires
entry-y-requires c =
    let p = pass c.args.k c.args.s c.args.m c.args.table.now c.requires.0 c.loop-r.r c.loop-r.x.bits c.loop-r.x.rank c.loop-r.x.times c.loop-r.invariant.2 (omega (arith, c.loop-r-test.true, c.loop-r.auto.r-end, c.loop-r.invariant.0)) in
    (p.within, p.few, ap inside p.is ∙ all_at (entry_at c.args.k c.args.s c.args.table.now) c.args.m c.loop-r.r c.requires.1 (omega (arith, c.loop-r-test.true, c.loop-r.auto.r-end, c.loop-r.invariant.0)))

pub offset_bounds-out-i : goal.offset_bounds-out-i
offset_bounds-out-i c = omega (arith, c.loop-r-test.true, c.loop-r.invariant.0, c.requires.2)

pub bounds-out-i : goal.bounds-out-i
bounds-out-i c = omega (arith, entries_keep (entry_at c.args.k c.args.s c.args.table.now) c.args.out.now c.loop-r.out c.loop-r.r (omega (arith, c.requires.2, c.loop-r.auto.r-end, c.loop-r.invariant.0)) c.loop-r.invariant.1, c.loop-r-test.true, c.loop-r.invariant.0, c.requires.2)

pub step-x-requires : goal.step-x-requires
step-x-requires c = can-move c.args.k c.args.s c.args.m c.args.table.now c.requires.0 c.loop-r.r c.loop-r.x.bits c.loop-r.x.rank c.loop-r.x.times c.loop-r.invariant.2 (omega (arith, c.loop-r-test.true, c.loop-r.invariant.0))

pub loop-r-preserved : goal.loop-r-preserved
loop-r-preserved c =
    let v : c.entry-y.result ≡ (entry_at c.args.k c.args.s c.args.table.now) c.loop-r.r = c.entry-y.ensures ∙ (pass c.args.k c.args.s c.args.m c.args.table.now c.requires.0 c.loop-r.r c.loop-r.x.bits c.loop-r.x.rank c.loop-r.x.times c.loop-r.invariant.2 (omega (arith, c.loop-r-test.true, c.loop-r.auto.r-end, c.loop-r.invariant.0))).is in
    let f : SFits w64 c.entry-y.result = inside_fits c.entry-y.result (ap inside v ∙ all_at (entry_at c.args.k c.args.s c.args.table.now) c.args.m c.loop-r.r c.requires.1 (omega (arith, c.loop-r-test.true, c.loop-r.auto.r-end, c.loop-r.invariant.0))) in (
      c.loop-r.invariant.0,
      entries_more (entry_at c.args.k c.args.s c.args.table.now) c.args.out.now c.loop-r.out c.loop-r.r _ (omega (arith, c.requires.2, c.loop-r-test.true, c.loop-r.invariant.0)) (to_z-of_z w64 c.entry-y.result f ∙ v) c.loop-r.invariant.1,
      placed-next c.args.k c.args.s c.args.m c.args.table.now c.requires.0 c.loop-r.r c.loop-r.x.bits c.loop-r.x.rank c.loop-r.x.times c.loop-r.invariant.2 (omega (arith, c.loop-r-test.true, c.loop-r.invariant.0)) c.step-x.result.bits c.step-x.result.rank c.step-x.result.times c.step-x.ensures,
    )

pub entry-y-requires-2 : goal.entry-y-requires-2
entry-y-requires-2 c =
    let p = pass c.args.k c.args.s c.args.m c.args.table.now c.requires.0 c.loop-r.r c.loop-r.x.bits c.loop-r.x.rank c.loop-r.x.times c.loop-r.invariant.2 (omega (arith, c.loop-r-test.false, c.loop-r.auto.r-end, c.loop-r.invariant.0)) in
    (p.within, p.few, ap inside p.is ∙ all_at (entry_at c.args.k c.args.s c.args.table.now) c.args.m c.loop-r.r c.requires.1 (omega (arith, c.loop-r-test.false, c.loop-r.auto.r-end, c.loop-r.invariant.0)))

pub offset_bounds-out-i-2 : goal.offset_bounds-out-i-2
offset_bounds-out-i-2 c = omega (arith, c.loop-r.invariant.0, c.requires.2)

pub bounds-out-i-2 : goal.bounds-out-i-2
bounds-out-i-2 c = omega (arith, entries_keep (entry_at c.args.k c.args.s c.args.table.now) c.args.out.now c.loop-r.out c.loop-r.r (omega (arith, c.requires.2, c.loop-r.auto.r-end, c.loop-r.invariant.0)) c.loop-r.invariant.1, c.loop-r.invariant.0, c.requires.2)

pub shape_of-out : goal.shape_of-out
shape_of-out c =
    let v : c.entry-y-2.result ≡ (entry_at c.args.k c.args.s c.args.table.now) c.loop-r.r = c.entry-y-2.ensures ∙ (pass c.args.k c.args.s c.args.m c.args.table.now c.requires.0 c.loop-r.r c.loop-r.x.bits c.loop-r.x.rank c.loop-r.x.times c.loop-r.invariant.2 (omega (arith, c.loop-r-test.false, c.loop-r.auto.r-end, c.loop-r.invariant.0))).is in
    let f : SFits w64 c.entry-y-2.result = inside_fits c.entry-y-2.result (ap inside v ∙ all_at (entry_at c.args.k c.args.s c.args.table.now) c.args.m c.loop-r.r c.requires.1 (omega (arith, c.loop-r-test.false, c.loop-r.auto.r-end, c.loop-r.invariant.0))) in
    let q : c.loop-r.r ≡ c.args.m - 1 = omega (arith, c.loop-r-test.false, c.loop-r.auto.r-end, c.loop-r.invariant.0) in
    let o : c.loop-r.out ≡ entries_of (entry_at c.args.k c.args.s c.args.table.now) (c.args.m - 1) ++ drop (c.args.m - 1) c.args.out.now = c.loop-r.invariant.1 ∙ ap (λ (j : ℕ). entries_of (entry_at c.args.k c.args.s c.args.table.now) j ++ drop j c.args.out.now) q in
    let z = entries_more (entry_at c.args.k c.args.s c.args.table.now) c.args.out.now c.loop-r.out (c.args.m - 1) _ (omega (arith, c.requires.2, c.loop-r.invariant.0)) (to_z-of_z w64 c.entry-y-2.result f ∙ v ∙ ap (entry_at c.args.k c.args.s c.args.table.now) q) o in
    entries_keep (entry_at c.args.k c.args.s c.args.table.now) c.args.out.now _ (c.args.m - 1 + 1) (omega (arith, c.requires.2, c.loop-r.invariant.0)) z

pub returns : goal.returns
returns c =
    let v : c.entry-y-2.result ≡ (entry_at c.args.k c.args.s c.args.table.now) c.loop-r.r = c.entry-y-2.ensures ∙ (pass c.args.k c.args.s c.args.m c.args.table.now c.requires.0 c.loop-r.r c.loop-r.x.bits c.loop-r.x.rank c.loop-r.x.times c.loop-r.invariant.2 (omega (arith, c.loop-r-test.false, c.loop-r.auto.r-end, c.loop-r.invariant.0))).is in
    let f : SFits w64 c.entry-y-2.result = inside_fits c.entry-y-2.result (ap inside v ∙ all_at (entry_at c.args.k c.args.s c.args.table.now) c.args.m c.loop-r.r c.requires.1 (omega (arith, c.loop-r-test.false, c.loop-r.auto.r-end, c.loop-r.invariant.0))) in
    let q : c.loop-r.r ≡ c.args.m - 1 = omega (arith, c.loop-r-test.false, c.loop-r.auto.r-end, c.loop-r.invariant.0) in
    let o : c.loop-r.out ≡ entries_of (entry_at c.args.k c.args.s c.args.table.now) (c.args.m - 1) ++ drop (c.args.m - 1) c.args.out.now = c.loop-r.invariant.1 ∙ ap (λ (j : ℕ). entries_of (entry_at c.args.k c.args.s c.args.table.now) j ++ drop j c.args.out.now) q in
    let z = entries_more (entry_at c.args.k c.args.s c.args.table.now) c.args.out.now c.loop-r.out (c.args.m - 1) _ (omega (arith, c.requires.2, c.loop-r.invariant.0)) (to_z-of_z w64 c.entry-y-2.result f ∙ v ∙ ap (entry_at c.args.k c.args.s c.args.table.now) q) o in
    z ∙ ap (λ (j : ℕ). entries_of (entry_at c.args.k c.args.s c.args.table.now) j ++ drop j c.args.out.now) c.loop-r.invariant.0
