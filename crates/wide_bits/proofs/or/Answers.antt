-- `wide_bits::or` meets its contract. Assumes nothing.
use Rattle.std.proofs.Common.{sym, rules}
use Rattle.seam.proofs.Joined.{joined_or}
use Rattle.wide_bits.proofs.or.Goals as goal

pub returns : goal.returns
returns c = sym (joined_or 64 c.args.a.low c.args.a.high c.args.b.low c.args.b.high (search rules) (search rules))
