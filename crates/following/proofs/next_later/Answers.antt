-- `following::next_later` meets its contract, by the law of a step. Assumes nothing.
use Prim.Native.Nat.{◌+◌, ◌-◌}
use native.Mathlib.Omega.{arith}
use Rattle.following.proofs.Steps.{small, all_small, some, steps}
use Rattle.following.proofs.next_later.Goals as goal

pub run-t-requires : goal.run-t-requires
run-t-requires c = some c.args.a c.args.k c.args.c c.args.bits c.args.later c.requires

pub overflow_sub-a : goal.overflow_sub-a
overflow_sub-a c = omega (arith, (steps c.args.a c.args.k c.args.c c.args.bits c.args.later c.lowest-x.result c.run-t.result c.requires c.lowest-x.ensures c.run-t.ensures).low, (steps c.args.a c.args.k c.args.c c.args.bits c.args.later c.lowest-x.result c.run-t.result c.requires c.lowest-x.ensures c.run-t.ensures).short)

pub overflow_sub-a-then-t-eq0 : goal.overflow_sub-a-then-t-eq0
overflow_sub-a-then-t-eq0 c = omega (arith, (steps c.args.a c.args.k c.args.c c.args.bits c.args.later c.lowest-x.result c.run-t.result c.requires c.lowest-x.ensures c.run-t.ensures).low, (steps c.args.a c.args.k c.args.c c.args.bits c.args.later c.lowest-x.result c.run-t.result c.requires c.lowest-x.ensures c.run-t.ensures).short)

pub overflow_sub-k : goal.overflow_sub-k
overflow_sub-k c = omega (arith, (steps c.args.a c.args.k c.args.c c.args.bits c.args.later c.lowest-x.result c.run-t.result c.requires c.lowest-x.ensures c.run-t.ensures).low, (steps c.args.a c.args.k c.args.c c.args.bits c.args.later c.lowest-x.result c.run-t.result c.requires c.lowest-x.ensures c.run-t.ensures).short)

pub at-requires : goal.at-requires
at-requires c = omega (arith, c.requires.narrow)

pub overflow_sub-result : goal.overflow_sub-result
overflow_sub-result c = omega (arith, (steps c.args.a c.args.k c.args.c c.args.bits c.args.later c.lowest-x.result c.run-t.result c.requires c.lowest-x.ensures c.run-t.ensures).single c.if-t-eq0.true, c.at.ensures)

pub returns-then-t-eq0 : goal.returns-then-t-eq0
returns-then-t-eq0 c = omega (arith, (steps c.args.a c.args.k c.args.c c.args.bits c.args.later c.lowest-x.result c.run-t.result c.requires c.lowest-x.ensures c.run-t.ensures).single c.if-t-eq0.true, c.at.ensures)

pub overflow_add-top : goal.overflow_add-top
overflow_add-top c = omega (arith, (steps c.args.a c.args.k c.args.c c.args.bits c.args.later c.lowest-x.result c.run-t.result c.requires c.lowest-x.ensures c.run-t.ensures).low, c.requires.narrow)

pub overflow_sub-a-2 : goal.overflow_sub-a-2
overflow_sub-a-2 c = omega (arith, (steps c.args.a c.args.k c.args.c c.args.bits c.args.later c.lowest-x.result c.run-t.result c.requires c.lowest-x.ensures c.run-t.ensures).low, (steps c.args.a c.args.k c.args.c c.args.bits c.args.later c.lowest-x.result c.run-t.result c.requires c.lowest-x.ensures c.run-t.ensures).short)

pub overflow_sub-a-3 : goal.overflow_sub-a-3
overflow_sub-a-3 c = omega (arith, (steps c.args.a c.args.k c.args.c c.args.bits c.args.later c.lowest-x.result c.run-t.result c.requires c.lowest-x.ensures c.run-t.ensures).low, (steps c.args.a c.args.k c.args.c c.args.bits c.args.later c.lowest-x.result c.run-t.result c.requires c.lowest-x.ensures c.run-t.ensures).short)

pub overflow_sub-k-2 : goal.overflow_sub-k-2
overflow_sub-k-2 c = omega (arith, (steps c.args.a c.args.k c.args.c c.args.bits c.args.later c.lowest-x.result c.run-t.result c.requires c.lowest-x.ensures c.run-t.ensures).low, (steps c.args.a c.args.k c.args.c c.args.bits c.args.later c.lowest-x.result c.run-t.result c.requires c.lowest-x.ensures c.run-t.ensures).short)

pub overflow_sub-k-3 : goal.overflow_sub-k-3
overflow_sub-k-3 c = omega (arith, (steps c.args.a c.args.k c.args.c c.args.bits c.args.later c.lowest-x.result c.run-t.result c.requires c.lowest-x.ensures c.run-t.ensures).low, (steps c.args.a c.args.k c.args.c c.args.bits c.args.later c.lowest-x.result c.run-t.result c.requires c.lowest-x.ensures c.run-t.ensures).short)

pub at-requires-2 : goal.at-requires-2
at-requires-2 c = omega (arith, c.requires.narrow)

pub overflow_add-more : goal.overflow_add-more
overflow_add-more c = omega (arith, c.at-2.ensures, small (c.args.a - 1 - (c.lowest-x.result + c.run-t.result)) (c.args.k - 1 - c.run-t.result) (omega (arith, c.requires.narrow)), all_small c.args.a c.args.k c.args.c c.args.bits c.args.later c.requires)

pub overflow_sub-a-4 : goal.overflow_sub-a-4
overflow_sub-a-4 c = omega (arith, (steps c.args.a c.args.k c.args.c c.args.bits c.args.later c.lowest-x.result c.run-t.result c.requires c.lowest-x.ensures c.run-t.ensures).low, (steps c.args.a c.args.k c.args.c c.args.bits c.args.later c.lowest-x.result c.run-t.result c.requires c.lowest-x.ensures c.run-t.ensures).short)

pub overflow_sub-a-5 : goal.overflow_sub-a-5
overflow_sub-a-5 c = omega (arith, (steps c.args.a c.args.k c.args.c c.args.bits c.args.later c.lowest-x.result c.run-t.result c.requires c.lowest-x.ensures c.run-t.ensures).low, (steps c.args.a c.args.k c.args.c c.args.bits c.args.later c.lowest-x.result c.run-t.result c.requires c.lowest-x.ensures c.run-t.ensures).short)

pub overflow_sub-k-4 : goal.overflow_sub-k-4
overflow_sub-k-4 c = omega (arith, (steps c.args.a c.args.k c.args.c c.args.bits c.args.later c.lowest-x.result c.run-t.result c.requires c.lowest-x.ensures c.run-t.ensures).low, (steps c.args.a c.args.k c.args.c c.args.bits c.args.later c.lowest-x.result c.run-t.result c.requires c.lowest-x.ensures c.run-t.ensures).short)

pub at-requires-3 : goal.at-requires-3
at-requires-3 c = omega (arith, c.requires.narrow)

pub overflow_add-more-2 : goal.overflow_add-more-2
overflow_add-more-2 c = omega (arith, c.at-3.ensures, c.at-2.ensures, small (c.args.a - 1 - (c.lowest-x.result + c.run-t.result)) (c.args.k - 1 - c.run-t.result) (omega (arith, c.requires.narrow)), all_small c.args.a c.args.k c.args.c c.args.bits c.args.later c.requires, small (c.args.a - 2 - (c.lowest-x.result + c.run-t.result)) (c.args.k - c.run-t.result) (omega (arith, c.requires.narrow)))

pub overflow_add-result : goal.overflow_add-result
overflow_add-result c = omega (arith, (steps c.args.a c.args.k c.args.c c.args.bits c.args.later c.lowest-x.result c.run-t.result c.requires c.lowest-x.ensures c.run-t.ensures).fits, c.at-3.ensures, c.at-2.ensures, small (c.args.a - 1 - (c.lowest-x.result + c.run-t.result)) (c.args.k - 1 - c.run-t.result) (omega (arith, c.requires.narrow)), all_small c.args.a c.args.k c.args.c c.args.bits c.args.later c.requires, small (c.args.a - 2 - (c.lowest-x.result + c.run-t.result)) (c.args.k - c.run-t.result) (omega (arith, c.requires.narrow)))

pub overflow_sub-a-6 : goal.overflow_sub-a-6
overflow_sub-a-6 c = omega (arith, (steps c.args.a c.args.k c.args.c c.args.bits c.args.later c.lowest-x.result c.run-t.result c.requires c.lowest-x.ensures c.run-t.ensures).low)

pub at-requires-4 : goal.at-requires-4
at-requires-4 c = omega (arith, c.requires.narrow)

pub overflow_sub-result-2 : goal.overflow_sub-result-2
overflow_sub-result-2 c = omega (arith, (steps c.args.a c.args.k c.args.c c.args.bits c.args.later c.lowest-x.result c.run-t.result c.requires c.lowest-x.ensures c.run-t.ensures).several, c.at-4.ensures, c.at-3.ensures, c.at-2.ensures)

pub overflow_sub-a-7 : goal.overflow_sub-a-7
overflow_sub-a-7 c = omega (arith, (steps c.args.a c.args.k c.args.c c.args.bits c.args.later c.lowest-x.result c.run-t.result c.requires c.lowest-x.ensures c.run-t.ensures).low, (steps c.args.a c.args.k c.args.c c.args.bits c.args.later c.lowest-x.result c.run-t.result c.requires c.lowest-x.ensures c.run-t.ensures).short)

pub overflow_sub-k-5 : goal.overflow_sub-k-5
overflow_sub-k-5 c = omega (arith, (steps c.args.a c.args.k c.args.c c.args.bits c.args.later c.lowest-x.result c.run-t.result c.requires c.lowest-x.ensures c.run-t.ensures).low, (steps c.args.a c.args.k c.args.c c.args.bits c.args.later c.lowest-x.result c.run-t.result c.requires c.lowest-x.ensures c.run-t.ensures).short)

pub at-requires-5 : goal.at-requires-5
at-requires-5 c = omega (arith, c.requires.narrow)

pub overflow_sub-result-3 : goal.overflow_sub-result-3
overflow_sub-result-3 c = omega (arith, (steps c.args.a c.args.k c.args.c c.args.bits c.args.later c.lowest-x.result c.run-t.result c.requires c.lowest-x.ensures c.run-t.ensures).several, c.at-5.ensures, c.at-4.ensures, c.at-3.ensures, c.at-2.ensures)

pub returns : goal.returns
returns c = omega (arith, (steps c.args.a c.args.k c.args.c c.args.bits c.args.later c.lowest-x.result c.run-t.result c.requires c.lowest-x.ensures c.run-t.ensures).several, c.at-5.ensures, c.at-4.ensures, c.at-3.ensures, c.at-2.ensures)
