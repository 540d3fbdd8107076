-- `successor::successor` meets its contract, by the law of the carry. Assumes nothing.
use Rattle.std.proofs.Common.{sym, arith, rules}
use lib.Count.{count_trailing_zeros}
use Rattle.seam.proofs.Later.{Room, Carried}
use Rattle.successor.proofs.Carried.{carried-run}
use Rattle.successor.proofs.successor.Goals as goal
use Rattle.successor.proofs.successor.Goals.{After-wrapping_add_u64-carried, Else-carried-eq0}

carry : (c : After-wrapping_add_u64-carried) → Carried 64 c.args.a (count_trailing_zeros 64 c.args.a) c.wrapping_add_u64-carried.result
carry c = carried-run _ _ _ (search rules) (search rules) c.wrapping_sub_u64.ensures.value c.wrapping_add_u64-carried.ensures.value

room : (c : Else-carried-eq0) → Room 64 c.args.a (count_trailing_zeros 64 c.args.a) c.wrapping_add_u64-carried.result
room c = (carry c.before).more (omega arith)

pub returns-then-carried-eq0 : goal.returns-then-carried-eq0
returns-then-carried-eq0 c = sym ((carry (goal.at.returns-then-carried-eq0 c).After-wrapping_add_u64-carried).last (omega arith))

pub overflow_cast-result : goal.overflow_cast-result
overflow_cast-result c = omega (arith, room (goal.at.overflow_cast-result c).Else-carried-eq0)

pub overflow_shr-result : goal.overflow_shr-result
overflow_shr-result c = (room (goal.at.overflow_shr-result c).Else-carried-eq0).low

pub overflow_add-result : goal.overflow_add-result
overflow_add-result c = omega (arith, room (goal.at.overflow_add-result c).Else-carried-eq0)

pub returns : goal.returns
returns c = (room (goal.at.returns c).Else-carried-eq0).step
