-- `cartesian::within` meets its contract. The invariant: the digits that are left decide. Assumes nothing.
use mathlib.Core.Path.{sym, ◌∙◌}
use native.Mathlib.Omega.{arith}
use borrow.Author.Tests.{lt-ltb, le-ltb}
use Rattle.cartesian.proofs.Tuples.{within_turn, within_end}
use Rattle.cartesian.proofs.within.Goals as goal

pub returns-then-r-digits : goal.returns-then-r-digits
returns-then-r-digits c =
    sym (c.loop-i.invariant ∙ within_turn c.args.radices.now c.args.digits.now c.loop-i.i (omega arith) (omega arith) ∙ simp (le-ltb _ _ c.if-r-digits.true))

pub loop-i-preserved : goal.loop-i-preserved
loop-i-preserved c =
    c.loop-i.invariant ∙ within_turn c.args.radices.now c.args.digits.now c.loop-i.i (omega arith) (omega arith) ∙ simp (lt-ltb _ _ c.if-r-digits.false)

pub returns : goal.returns
returns c =
    sym (c.loop-i.invariant ∙ within_end c.args.radices.now c.args.digits.now c.loop-i.i (omega arith))
