-- `bits::lowest` meets its contract: the trailing zeros are the first symbol. Assumes nothing.
use Rattle.std.proofs.Common.{lt_of_le_of_lt, arith, rules}
use lib.Count.{trailing_le}
use Rattle.words.proofs.SetLaws.{lowest-symbol}
use Rattle.bits.proofs.lowest.Goals as goal

pub overflow_cast-result : goal.overflow_cast-result
overflow_cast-result c = record { fits = lt_of_le_of_lt (trailing_le 64 _) (omega arith) }

pub returns : goal.returns
returns c = lowest-symbol 64 c.args.a (search rules)
