-- `permutation::nothing_past` meets its contract: the entries passed are joined, and are 0 together exactly where each is. Assumes nothing.
use lib.ListN.{drop}
use Rattle.permutation.proofs.Past.{Scanned}
use Rattle.permutation.proofs.nothing_past.Given as goal

abbrev pub invariant-loop-x : goal.invariant-loop-x
invariant-loop-x l = Scanned (drop l.n l.entries) l.x-index l.all
