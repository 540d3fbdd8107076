-- `following::run` meets its contract, by the laws of `Runs`. Assumes nothing.
use native.Mathlib.Omega.{arith}
use Rattle.following.proofs.Runs.{Turn, runs_start, runs_turn, runs_end, runs_few}
use Rattle.following.proofs.run.Goals as goal
use Rattle.following.proofs.run.Goals.{After-lowest}

pub loop-t-init : goal.loop-t-init
loop-t-init c = runs_start c.args.bits c.without_lowest-left.result c.lowest-top.result c.requires c.ranges.bits.fits c.without_lowest-left.ensures c.lowest-top.ensures

-- what the lowest number that is left brings
turn : (c : After-lowest) → Turn c.args.bits c.loop-t.left c.loop-t.top c.loop-t.t c.lowest.result
turn c = runs_turn c.args.bits c.loop-t.left c.loop-t.top c.loop-t.t c.lowest.result c.loop-t.invariant c.if-left-eq0.false c.lowest.ensures

pub returns-then-left-eq0 : goal.returns-then-left-eq0
returns-then-left-eq0 c = runs_end c.args.bits c.loop-t.left c.loop-t.top c.loop-t.t c.loop-t.invariant c.if-left-eq0.true

pub overflow_add-top : goal.overflow_add-top
overflow_add-top c = omega (arith, (turn (goal.at.overflow_add-top c).After-lowest).low)

pub returns-then-lowest-top : goal.returns-then-lowest-top
returns-then-lowest-top c = (turn (goal.at.returns-then-lowest-top c).After-lowest).stops c.if-lowest-top.true

pub overflow_add-top-in-loop-t : goal.overflow_add-top-in-loop-t
overflow_add-top-in-loop-t c = omega (arith, (turn (goal.at.overflow_add-top-in-loop-t c).After-lowest).low)

pub loop-t-preserved : goal.loop-t-preserved
loop-t-preserved c =
    (turn (goal.at.loop-t-preserved c).After-lowest).again c.if-lowest-top.false c.without_lowest-left-in-loop-t.result c.without_lowest-left-in-loop-t.ensures

pub returns : goal.returns
returns c = absurd (runs_few c.args.bits c.loop-t.left c.loop-t.top c.loop-t.t c.loop-t.invariant (omega (arith, c.loop-t-test.false)))
