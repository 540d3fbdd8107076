-- `deletion::product` meets its contract, by the laws of `Multiplying`. Assumes nothing.
use mathlib.Core.Path.{sym}
use native.Mathlib.Omega.{arith}
use borrow.Author.Rules.{rules}
use borrow.Author.Tests.{le-leb, lt-leb}
use Rattle.deletion.proofs.Multiplying.{multiplied_starts, place, few, occurs-here, multiplied-turn, multiplied-past, multiplied_ends, multiplied_out, goes-on, too_big_lem, small-enough}
use Rattle.words.proofs.Bits.{set_bits_long}
use lib.Count.{ones-le}
use Rattle.deletion.proofs.product.Goals as goal
use Rattle.std.proofs.Common.{inl, inr}
use Rattle.deletion.proofs.product.Goals.{then-symbol-previous, else-symbol-previous}

pub returns-then-left-eq0 : goal.returns-then-left-eq0
returns-then-left-eq0 c =
    let e = multiplied_out (multiplied_starts c.args.x.family c.args.x.bits) c.if-left-eq0.true in
    simp (sym e)

pub loop-i-init : goal.loop-i-init
loop-i-init c = (multiplied_starts c.args.x.family c.args.x.bits, goes-on (multiplied_starts c.args.x.family c.args.x.bits) c.if-left-eq0.false)

pub overflow_sub-symbol : goal.overflow_sub-symbol
overflow_sub-symbol c = (place c.loop-i.invariant.0 c.loop-i.invariant.1 c.lowest.ensures c.shift.ensures).taken

pub overflow_add-run : goal.overflow_add-run
overflow_add-run c = omega (arith, few c.loop-i.invariant.0 c.loop-i.invariant.1 c.lowest.ensures c.shift.ensures 64 (search rules), c.loop-i.invariant.0.running.short)

pub nonzero_div-run : goal.nonzero_div-run
nonzero_div-run c = let o = occurs-here c.loop-i.invariant.0 c.loop-i.invariant.1 c.lowest.ensures c.shift.ensures (elim c.if-symbol-previous.branch [ then-symbol-previous w ↦ inl (w.if-symbol-previous.true, w.run-is) | else-symbol-previous w ↦ inr (w.if-symbol-previous.false, w.run-is) ]) in omega (arith, o.times)

pub returns-then-run-product : goal.returns-then-run-product
returns-then-run-product c =
    let o = occurs-here c.loop-i.invariant.0 c.loop-i.invariant.1 c.lowest.ensures c.shift.ensures (elim c.if-symbol-previous.branch [ then-symbol-previous w ↦ inl (w.if-symbol-previous.true, w.run-is) | else-symbol-previous w ↦ inr (w.if-symbol-previous.false, w.run-is) ]) in
    let h = multiplied-past c.loop-i.invariant.0 o (omega (arith, too_big_lem 18446744073709551615 c.if-symbol-previous.run c.loop-i.product (omega (arith, o.times)) c.if-run-product.true)) in
    simp (le-leb _ _ h)

pub overflow_mul-product : goal.overflow_mul-product
overflow_mul-product c =
    let o = occurs-here c.loop-i.invariant.0 c.loop-i.invariant.1 c.lowest.ensures c.shift.ensures (elim c.if-symbol-previous.branch [ then-symbol-previous w ↦ inl (w.if-symbol-previous.true, w.run-is) | else-symbol-previous w ↦ inr (w.if-symbol-previous.false, w.run-is) ]) in
    omega (arith, small-enough 18446744073709551615 c.if-symbol-previous.run c.loop-i.product (omega (arith, o.times)) c.if-run-product.false)

pub returns-then-left-eq0-2 : goal.returns-then-left-eq0-2
returns-then-left-eq0-2 c =
    let o = occurs-here c.loop-i.invariant.0 c.loop-i.invariant.1 c.lowest.ensures c.shift.ensures (elim c.if-symbol-previous.branch [ then-symbol-previous w ↦ inl (w.if-symbol-previous.true, w.run-is) | else-symbol-previous w ↦ inr (w.if-symbol-previous.false, w.run-is) ]) in
    let m = multiplied-turn c.loop-i.invariant.0 c.loop-i.invariant.1 c.lowest.ensures c.shift.ensures c.without_lowest-left.result o c.without_lowest-left.ensures
    (omega (arith, small-enough 18446744073709551615 c.if-symbol-previous.run c.loop-i.product (omega (arith, o.times)) c.if-run-product.false)) in
    let e = multiplied_out m c.if-left-eq0-2.true in
    simp (sym e, lt-leb _ _ m.fits)

pub loop-i-preserved : goal.loop-i-preserved
loop-i-preserved c =
    let o = occurs-here c.loop-i.invariant.0 c.loop-i.invariant.1 c.lowest.ensures c.shift.ensures (elim c.if-symbol-previous.branch [ then-symbol-previous w ↦ inl (w.if-symbol-previous.true, w.run-is) | else-symbol-previous w ↦ inr (w.if-symbol-previous.false, w.run-is) ]) in
    let m = multiplied-turn c.loop-i.invariant.0 c.loop-i.invariant.1 c.lowest.ensures c.shift.ensures c.without_lowest-left.result o c.without_lowest-left.ensures
    (omega (arith, small-enough 18446744073709551615 c.if-symbol-previous.run c.loop-i.product (omega (arith, o.times)) c.if-run-product.false)) in (m, goes-on m c.if-left-eq0-2.false)

pub returns : goal.returns
returns c =
    let e = multiplied_ends c.loop-i.invariant.0 (omega (arith, c.loop-i-test.false, c.loop-i.invariant.1, set_bits_long c.args.x.bits, ones-le 64 c.args.x.bits (search rules))) in
    simp (sym e, lt-leb _ _ c.loop-i.invariant.0.fits)
