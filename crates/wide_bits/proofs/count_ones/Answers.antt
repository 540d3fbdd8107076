-- `wide_bits::count_ones` meets its contract. Assumes nothing.
use Rattle.std.proofs.Common.{arith, rules}
use Rattle.seam.proofs.Joined.{joined-long, long_le}
use Rattle.wide_bits.proofs.count_ones.Goals as goal

pub overflow_add-result : goal.overflow_add-result
overflow_add-result c = omega (arith, long_le 64 c.args.a.low (search rules), long_le 64 c.args.a.high (search rules))

pub returns : goal.returns
returns c = omega (arith, joined-long 64 c.args.a.low c.args.a.high (search rules))
