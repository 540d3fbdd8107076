-- `permutation::is_permutation` meets its contract: the digits of the marks are the entries passed. Assumes nothing.
use Rattle.permutation.proofs.Seen.{Seen}
use Rattle.permutation.proofs.is_permutation.Given as goal

abbrev pub invariant-loop-i : goal.invariant-loop-i
invariant-loop-i l = Seen l.entries l.n l.i l.seen
