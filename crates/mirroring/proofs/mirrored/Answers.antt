-- `mirroring::mirrored` meets its contract, by the laws of `Mirroring`. Assumes nothing.
use native.Mathlib.Omega.{arith}
use Rattle.mirroring.proofs.Mirroring.{Mirroring, mirroring_starts, mirroring_turn, mirroring_ends, mirroring_some}
use Rattle.mirroring.proofs.mirrored.Goals as goal

pub loop-left-init : goal.loop-left-init
loop-left-init c = mirroring_starts c.args.a c.args.bits c.requires.0 c.requires.1

pub overflow_sub-out : goal.overflow_sub-out
overflow_sub-out c = mirroring_some c.args.a c.args.bits c.loop-left.left c.loop-left.out c.loop-left.invariant c.loop-left-test.true

pub overflow_sub-out-in-loop-left : goal.overflow_sub-out-in-loop-left
overflow_sub-out-in-loop-left c = omega (arith, (mirroring_turn c.args.a c.args.bits c.loop-left.left c.loop-left.out c.lowest.result c.requires.0 c.requires.1 c.loop-left.invariant c.loop-left-test.true c.lowest.ensures).low)

pub overflow_shl-out : goal.overflow_shl-out
overflow_shl-out c = omega (arith, (mirroring_turn c.args.a c.args.bits c.loop-left.left c.loop-left.out c.lowest.result c.requires.0 c.requires.1 c.loop-left.invariant c.loop-left-test.true c.lowest.ensures).low)

pub overflow_add-out : goal.overflow_add-out
overflow_add-out c = record { fits = (mirroring_turn c.args.a c.args.bits c.loop-left.left c.loop-left.out c.lowest.result c.requires.0 c.requires.1 c.loop-left.invariant c.loop-left-test.true c.lowest.ensures).adds }

pub loop-left-smaller : goal.loop-left-smaller
loop-left-smaller c = (mirroring_turn c.args.a c.args.bits c.loop-left.left c.loop-left.out c.lowest.result c.requires.0 c.requires.1 c.loop-left.invariant c.loop-left-test.true c.lowest.ensures).less c.without_lowest-left.result c.without_lowest-left.ensures

pub loop-left-preserved : goal.loop-left-preserved
loop-left-preserved c = (mirroring_turn c.args.a c.args.bits c.loop-left.left c.loop-left.out c.lowest.result c.requires.0 c.requires.1 c.loop-left.invariant c.loop-left-test.true c.lowest.ensures).again c.without_lowest-left.result c.without_lowest-left.ensures

pub returns : goal.returns
returns c = mirroring_ends c.args.a c.args.bits c.loop-left.left c.loop-left.out c.loop-left.invariant (omega arith)
