-- `bits::without_lowest` meets its contract: of a set that is not empty the number before it has the lowest digit cleared; of the empty set nothing is left. Assumes nothing.
use Rattle.std.proofs.Common.{arith, rules}
use Rattle.words.proofs.SetLaws.{without_lowest}
use Rattle.bits.proofs.without_lowest.Goals as goal

pub returns : goal.returns
returns c = without_lowest 64 c.args.a c.wrapping_sub_u64.result (search rules) (λ h. omega arith)
