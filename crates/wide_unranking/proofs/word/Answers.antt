-- `wide_unranking::word` meets its contract: up to 64 numbers, and of a rank below the count over 64, by the narrow form, any other by the walk. Assumes nothing.
use native.Mathlib.Omega.{arith}
use Rattle.pascal.proofs.Row.{entry_is_choose}
use Rattle.wide_unranking.proofs.word.Goals as goal

pub word-low-requires : goal.word-low-requires
word-low-requires c = (omega arith, omega (arith, c.requires.1, entry_is_choose c.args.n c.args.k))

pub returns-then-n-le64 : goal.returns-then-n-le64
returns-then-n-le64 c = omega (arith, c.word-low.ensures)

pub word-low-requires-then-r-at : goal.word-low-requires-then-r-at
word-low-requires-then-r-at c = (omega arith, omega (arith, c.at.ensures))

pub returns-then-r-at : goal.returns-then-r-at
returns-then-r-at c = omega (arith, c.word-low-then-r-at.ensures)
