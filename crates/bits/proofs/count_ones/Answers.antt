-- `bits::count_ones` meets its contract: a set has as many numbers as its number has ones. Assumes nothing.
use Rattle.std.proofs.Common.{sym, lt_of_le_of_lt, arith, rules}
use lib.Count.{ones-le}
use Rattle.words.proofs.Bits.{set_bits_long}
use Rattle.bits.proofs.count_ones.Goals as goal

pub overflow_cast-result : goal.overflow_cast-result
overflow_cast-result c = record { fits = lt_of_le_of_lt (ones-le 64 _ (search rules)) (omega arith) }

pub returns : goal.returns
returns c = sym (set_bits_long c.args.a)
