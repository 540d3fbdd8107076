-- `ranking::rank` meets its contract: a set of more than 32 numbers by its complement, which has fewer. Assumes nothing.
use native.Mathlib.Omega.{arith}
use borrow.Author.Rules.{rules}
use lib.Count.{ones-le}
use Rattle.words.proofs.Complement.{complement_reverses_rank}
use Rattle.ranking.proofs.Fits.{rank_fits, complement_fits}
use Rattle.ranking.proofs.rank.Goals as goal

pub overflow_cast-k : goal.overflow_cast-k
overflow_cast-k c = omega (arith, ones-le 64 c.args.bits (search rules))

pub from_0-requires : goal.from_0-requires
from_0-requires c = rank_fits _ (search rules) (omega arith)

pub overflow_sub-result : goal.overflow_sub-result
overflow_sub-result c = omega (arith, complement_reverses_rank 64 c.args.bits (search rules))

pub from_0-requires-else-k-le32 : goal.from_0-requires-else-k-le32
from_0-requires-else-k-le32 c = complement_fits _ (search rules) (omega arith)

pub overflow_sub-result-else-k-le32 : goal.overflow_sub-result-else-k-le32
overflow_sub-result-else-k-le32 c = omega (arith, complement_reverses_rank 64 c.args.bits (search rules))

pub returns-else-k-le32 : goal.returns-else-k-le32
returns-else-k-le32 c = omega (arith, complement_reverses_rank 64 c.args.bits (search rules))
