-- `digits::number` meets its contract. The invariant: the number of the symbols from position i up. Assumes nothing.
use lib.ListN.{length, replicate}
use Rattle.cartesian.proofs.Tuples.{Above}
use Rattle.digits.proofs.number.Given as goal

abbrev pub invariant-loop-i : goal.invariant-loop-i
invariant-loop-i l = Above (replicate (length l.symbols) l.radix) l.symbols l.above l.i
