-- `digits::write_symbols` meets its contract, as the digits of a shape of equal radices are written. Assumes nothing.
use lib.ListN.{replicate}
use Rattle.cartesian.proofs.Writing.{Spelling}
use Rattle.digits.proofs.write_symbols.Given as goal

abbrev pub invariant-loop-i : goal.invariant-loop-i
invariant-loop-i l = Spelling (replicate l.degree l.radix) l.rank l.initial.out l.out l.left l.i
