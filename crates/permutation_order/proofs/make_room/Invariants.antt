-- `permutation_order::make_room` meets its contract: the places passed hold the raised entries. Assumes nothing.
use lib.ListN.{take}
use Rattle.arrangements.specs.Rank.{lastly}
use Rattle.answers.proofs.Lent.{Filled}
use Rattle.permutation.proofs.Filled.{at}
use Rattle.permutation_order.proofs.make_room.Given as goal

abbrev pub invariant-loop-i : goal.invariant-loop-i
invariant-loop-i l = Filled (at (lastly l.d (take l.n l.initial.entries))) l.initial.entries l.entries l.i
