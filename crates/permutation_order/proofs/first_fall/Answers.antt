-- `permutation_order::first_fall` meets its contract: the entries passed rise. Assumes nothing.
use Rattle.permutation_order.proofs.Searching.{fall-here, no-fall-here, no-fall}
use Rattle.permutation_order.proofs.first_fall.Goals as goal

pub returns-then-p-k : goal.returns-then-p-k
returns-then-p-k c =
    fall-here c.args.p c.loop-k.k c.loop-k.auto.k c.loop-k-test.true c.loop-k.invariant c.if-p-k.true

pub loop-k-preserved : goal.loop-k-preserved
loop-k-preserved c =
    no-fall-here c.args.p c.loop-k.k c.requires c.loop-k.auto.k c.loop-k-test.true c.loop-k.invariant c.if-p-k.false

pub returns : goal.returns
returns c = no-fall c.args.p c.loop-k.k c.loop-k-test.false c.loop-k.invariant
