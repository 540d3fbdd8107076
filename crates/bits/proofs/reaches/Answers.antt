-- `bits::reaches` meets its contract: the leading zeros tell the highest number. Assumes nothing.
use Rattle.std.proofs.Common.{lt_of_le_of_lt, arith, rules}
use lib.Count.{leading_le}
use Rattle.bits.proofs.Member.{reaches_is_top}
use Rattle.bits.proofs.reaches.Goals as goal

pub overflow_cast-zeros : goal.overflow_cast-zeros
overflow_cast-zeros c = record { fits = lt_of_le_of_lt (leading_le 64 _) (omega arith) }

pub overflow_sub-top : goal.overflow_sub-top
overflow_sub-top c = leading_le 64 _

pub returns : goal.returns
returns c = reaches_is_top 64 c.args.n c.args.a (search rules)
