-- `wide_bits::without_lowest` meets its contract. Assumes nothing.
use Rattle.seam.proofs.Joined.{joined-rest-low, joined_rest_high, some}
use Rattle.std.proofs.Common.{arith, rules}
use Rattle.wide_bits.proofs.without_lowest.Goals as goal

pub returns-then-low-ne0 : goal.returns-then-low-ne0
returns-then-low-ne0 c = joined-rest-low 64 c.args.a.low c.args.a.high (search rules) _ (some c.args.a.low c.if-low-ne0.true) c.without_lowest-low.ensures (search rules)

pub returns : goal.returns
returns c = joined_rest_high 64 c.args.a.low c.args.a.high _ (omega arith) c.without_lowest-high.ensures
