-- `permutation_order::first_greater` meets its contract: no entry passed is greater. Assumes nothing.
use native.Mathlib.Omega.{arith}
use borrow.Author.Count.{below_more}
use Rattle.permutation_order.proofs.Searching.{greater-here, no-greater}
use Rattle.permutation_order.proofs.first_greater.Goals as goal

pub returns-then-x-p : goal.returns-then-x-p
returns-then-x-p c =
    greater-here c.args.p c.args.k c.loop-i.i c.requires.1 c.loop-i-test.true c.loop-i.invariant c.if-x-p.true

pub loop-i-preserved : goal.loop-i-preserved
loop-i-preserved c = below_more _ _ c.loop-i.invariant c.if-x-p.false

pub returns : goal.returns
returns c =
    no-greater c.args.p c.args.k c.requires.1 (λ j h. c.loop-i.invariant j (omega arith))
