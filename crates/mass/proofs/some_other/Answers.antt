-- `mass::some_other` meets its contract. The invariant: no row passed is another. Assumes nothing.
use mathlib.Core.Path.{sym, ◌∙◌}
use Prim.Native.Nat.{◌-◌}
use native.Mathlib.Omega.{arith}
use Rattle.mass.proofs.Rows.{other-family, other-alphabet, own_row, no_row}
use Rattle.mass.proofs.some_other.Goals as goal

pub returns-then-wide-ne1 : goal.returns-then-wide-ne1
returns-then-wide-ne1 c = sym (c.loop-i.invariant ∙ other-family c.args.image.now c.loop-i.i (c.loop-i.i - 1) (omega (arith, c.loop-i-test.true)) (λ e. c.if-wide-ne1.true (c.wide.ensures.0 ∙ e)))

pub returns-then-wide-ne2 : goal.returns-then-wide-ne2
returns-then-wide-ne2 c = sym (c.loop-i.invariant ∙ other-alphabet c.args.image.now c.loop-i.i (c.loop-i.i - 1) (omega (arith, c.loop-i-test.true)) (sym c.wide.ensures.0 ∙ c.if-wide-ne1.false) (λ e. c.if-wide-ne2.true (c.wide-in-loop-i.ensures.0 ∙ e)))

pub loop-i-preserved : goal.loop-i-preserved
loop-i-preserved c = c.loop-i.invariant ∙ own_row c.args.image.now c.loop-i.i (c.loop-i.i - 1) (omega (arith, c.loop-i-test.true)) (sym c.wide.ensures.0 ∙ c.if-wide-ne1.false) (sym c.wide-in-loop-i.ensures.0 ∙ c.if-wide-ne2.false)

pub returns : goal.returns
returns c = sym (c.loop-i.invariant ∙ no_row c.args.image.now c.loop-i.i (omega (arith, c.loop-i-test.false)))
