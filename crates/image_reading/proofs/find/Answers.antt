-- `image_reading::find` meets its contract. Assumes nothing.
use mathlib.Core.Path.{sym, ◌∙◌}
use Prim.Native.Nat.{◌-◌}
use native.Mathlib.Omega.{arith}
use Rattle.image_reading.proofs.Looking.{find_here, find_family, find_degree, find_none}
use Rattle.image_reading.proofs.find.Goals as goal

pub returns-then-wide-k : goal.returns-then-wide-k
returns-then-wide-k c = sym (c.loop-i.invariant ∙ find_here c.args.s.now c.args.f c.args.k c.loop-i.i (c.loop-i.i - 1) (omega (arith, c.loop-i-test.true)) (sym c.wide.ensures.0 ∙ c.if-wide-f.true) (sym c.wide-then-wide-f.ensures.0 ∙ c.if-wide-k.true))

pub loop-i-preserved-else-wide-k : goal.loop-i-preserved-else-wide-k
loop-i-preserved-else-wide-k c = c.loop-i.invariant ∙ find_degree c.args.s.now c.args.f c.args.k c.loop-i.i (c.loop-i.i - 1) (omega (arith, c.loop-i-test.true)) (sym c.wide.ensures.0 ∙ c.if-wide-f.true) (λ e. c.if-wide-k.false (c.wide-then-wide-f.ensures.0 ∙ e))

pub loop-i-preserved : goal.loop-i-preserved
loop-i-preserved c = c.loop-i.invariant ∙ find_family c.args.s.now c.args.f c.args.k c.loop-i.i (c.loop-i.i - 1) (omega (arith, c.loop-i-test.true)) (λ e. c.if-wide-f.false (c.wide.ensures.0 ∙ e))

pub returns : goal.returns
returns c = sym (c.loop-i.invariant ∙ find_none c.args.s.now c.args.f c.args.k c.loop-i.i (omega (arith, c.loop-i-test.false)))
