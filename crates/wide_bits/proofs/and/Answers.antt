-- `wide_bits::and` meets its contract. Assumes nothing.
use Rattle.std.proofs.Common.{sym, rules}
use Rattle.seam.proofs.Joined.{joined_and}
use Rattle.wide_bits.proofs.and.Goals as goal

pub returns : goal.returns
returns c = sym (joined_and 64 c.args.a.low c.args.a.high c.args.b.low c.args.b.high (search rules) (search rules))
