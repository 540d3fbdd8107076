-- `wide_bits::xor` meets its contract. Assumes nothing.
use Rattle.std.proofs.Common.{sym, rules}
use Rattle.seam.proofs.Joined.{joined_xor}
use Rattle.wide_bits.proofs.xor.Goals as goal

pub returns : goal.returns
returns c = sym (joined_xor 64 c.args.a.low c.args.a.high c.args.b.low c.args.b.high (search rules) (search rules))
