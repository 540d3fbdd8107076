-- `adding::step` meets its contract, by the laws of `Places`. Assumes nothing.
use mathlib.Core.Path.{refl}
use native.Mathlib.Omega.{arith}
use Rattle.adding.proofs.Places.{least_fits, moved-below, next_fits, row_fits, moved-above}
use Rattle.adding.proofs.step.Goals as goal

pub overflow_add-rank : goal.overflow_add-rank
overflow_add-rank c = omega (arith, (moved-below c.args.s c.args.x.bits c.args.x.rank c.args.x.times c.requires c.successor-bits.result c.lowest-least.result c.successor-bits.ensures c.lowest-least.ensures _ refl c.if-least-s.true).0)

pub overflow_add-least : goal.overflow_add-least
overflow_add-least c = omega (arith, least_fits c.args.s c.args.x.bits c.args.x.rank c.args.x.times c.requires c.successor-bits.result c.lowest-least.result c.successor-bits.ensures c.lowest-least.ensures)

pub overflow_add-times : goal.overflow_add-times
overflow_add-times c = omega (arith, (moved-below c.args.s c.args.x.bits c.args.x.rank c.args.x.times c.requires c.successor-bits.result c.lowest-least.result c.successor-bits.ensures c.lowest-least.ensures c.if_equal.result c.if_equal.ensures c.if-least-s.true).1)

pub returns-then-least-s : goal.returns-then-least-s
returns-then-least-s c = (moved-below c.args.s c.args.x.bits c.args.x.rank c.args.x.times c.requires c.successor-bits.result c.lowest-least.result c.successor-bits.ensures c.lowest-least.ensures c.if_equal.result c.if_equal.ensures c.if-least-s.true).2

pub overflow_add-bits : goal.overflow_add-bits
overflow_add-bits c = omega (arith, next_fits c.args.s c.args.x.bits c.args.x.rank c.args.x.times c.requires c.successor-bits.result c.lowest-least.result c.successor-bits.ensures c.lowest-least.ensures)

pub overflow_add-s : goal.overflow_add-s
overflow_add-s c = omega (arith, row_fits c.args.s c.args.x.bits c.args.x.rank c.args.x.times c.requires c.successor-bits.result c.lowest-least.result c.successor-bits.ensures c.lowest-least.ensures c.lowest-zeros.result c.lowest-zeros.ensures)

pub overflow_add-zeros : goal.overflow_add-zeros
overflow_add-zeros c = omega (arith, row_fits c.args.s c.args.x.bits c.args.x.rank c.args.x.times c.requires c.successor-bits.result c.lowest-least.result c.successor-bits.ensures c.lowest-least.ensures c.lowest-zeros.result c.lowest-zeros.ensures)

pub at-requires : goal.at-requires
at-requires c = omega (arith, row_fits c.args.s c.args.x.bits c.args.x.rank c.args.x.times c.requires c.successor-bits.result c.lowest-least.result c.successor-bits.ensures c.lowest-least.ensures c.lowest-zeros.result c.lowest-zeros.ensures)

pub overflow_add-skipped : goal.overflow_add-skipped
overflow_add-skipped c = omega (arith, (moved-above c.args.s c.args.x.bits c.args.x.rank c.args.x.times c.requires c.successor-bits.result c.lowest-least.result c.successor-bits.ensures c.lowest-least.ensures c.lowest-zeros.result c.lowest-zeros.ensures c.at.result _ c.at.ensures refl c.if-least-s.false).0)

pub overflow_add-rank-2 : goal.overflow_add-rank-2
overflow_add-rank-2 c = omega (arith, (moved-above c.args.s c.args.x.bits c.args.x.rank c.args.x.times c.requires c.successor-bits.result c.lowest-least.result c.successor-bits.ensures c.lowest-least.ensures c.lowest-zeros.result c.lowest-zeros.ensures c.at.result _ c.at.ensures refl c.if-least-s.false).0)

pub overflow_add-rank-3 : goal.overflow_add-rank-3
overflow_add-rank-3 c = omega (arith, (moved-above c.args.s c.args.x.bits c.args.x.rank c.args.x.times c.requires c.successor-bits.result c.lowest-least.result c.successor-bits.ensures c.lowest-least.ensures c.lowest-zeros.result c.lowest-zeros.ensures c.at.result _ c.at.ensures refl c.if-least-s.false).0)

pub overflow_add-times-2 : goal.overflow_add-times-2
overflow_add-times-2 c = omega (arith, (moved-above c.args.s c.args.x.bits c.args.x.rank c.args.x.times c.requires c.successor-bits.result c.lowest-least.result c.successor-bits.ensures c.lowest-least.ensures c.lowest-zeros.result c.lowest-zeros.ensures c.at.result c.if_equal-times.result c.at.ensures c.if_equal-times.ensures c.if-least-s.false).1)

pub returns : goal.returns
returns c = (moved-above c.args.s c.args.x.bits c.args.x.rank c.args.x.times c.requires c.successor-bits.result c.lowest-least.result c.successor-bits.ensures c.lowest-least.ensures c.lowest-zeros.result c.lowest-zeros.ensures c.at.result c.if_equal-times.result c.at.ensures c.if_equal-times.ensures c.if-least-s.false).2
