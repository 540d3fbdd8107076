-- `cartesian_strides::corner` meets its contract, by the laws of `Summing`. Assumes nothing.
use mathlib.Core.Path.{◌≡◌, sym, ap, ◌∙◌}
use mathlib.Core.Bool.{false}
use Prim.Native.Nat.{◌/◌, ◌^◌}
use native.Mathlib.Omega.{arith}
use borrow.Author.Tests.{lt-ltb, le-ltb, eqb-true, not-false}
use lib.ListN.{length}
use Rattle.words.specs.Bits.{set_bits}
use Rattle.bits.specs.Member.{reaches}
use Rattle.bits.proofs.Member.{reaches_is_quotient}
use Rattle.positional.specs.Positional.{stride}
use Rattle.answers.specs.Says.{answer_says}
use Rattle.cartesian_strides.proofs.Corners.{summing_starts, summing_turn, summing_ends, axis_chosen, axis_left_out}
use Rattle.cartesian_strides.proofs.corner.Goals as goal
use Rattle.cartesian_strides.proofs.corner.Goals.{then-left-eq1, else-left-eq1}

pub returns-then-radices-gt16 : goal.returns-then-radices-gt16
returns-then-radices-gt16 c = simp (lt-ltb _ _ c.if-radices-gt16.true)

pub returns-then-reaches : goal.returns-then-reaches
returns-then-reaches c = simp (le-ltb _ _ c.if-radices-gt16.false, sym c.reaches.ensures ∙ c.if-reaches.true)

pub loop-r-init : goal.loop-r-init
loop-r-init c = summing_starts c.args.radices.now c.args.axes

pub loop-r-preserved : goal.loop-r-preserved
loop-r-preserved c =
    summing_turn c.args.radices.now c.args.axes (answer_says c.loop-r.sum) (answer_says c.loop-r.stride) (answer_says c.if-left-eq1.sum) (answer_says c.times-stride.result) c.loop-r.left c.loop-r.r-index c.loop-r.invariant (omega arith)
    (λ m e. elim c.if-left-eq1.branch [
      | then-left-eq1 w ↦ ap answer_says w.sum-is ∙ w.plus-sum.ensures m (stride c.args.radices.now c.loop-r.r-index) e c.loop-r.invariant.grown ∙ axis_chosen c.loop-r.left m (stride c.args.radices.now c.loop-r.r-index) w.if-left-eq1.true
      | else-left-eq1 w ↦ ap answer_says w.sum-is ∙ e ∙ axis_left_out c.loop-r.left m (stride c.args.radices.now c.loop-r.r-index) w.if-left-eq1.false
    ])
    c.times-stride.ensures

pub returns : goal.returns
returns c =
    let e : reaches (length c.args.radices.now) (set_bits c.args.axes) ≡ false = sym c.reaches.ensures ∙ c.if-reaches.false in
    let none : c.args.axes / 2 ^ length c.args.radices.now ≡ 0 = eqb-true _ 0 (not-false _ (sym (reaches_is_quotient (length c.args.radices.now) c.args.axes) ∙ e)) in
    simp (le-ltb _ _ c.if-radices-gt16.false, e) (summing_ends c.args.radices.now c.args.axes (answer_says c.loop-r.sum) (answer_says c.loop-r.stride) c.loop-r.left c.loop-r.r-index c.loop-r.invariant (omega arith) none)
