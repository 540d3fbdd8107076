-- `permutation_group::odd_inversions` meets its contract, by the set of the entries seen. Assumes nothing.
use Rattle.seen.proofs.Turns.{Turned}
use Rattle.permutation.specs.Record.{capacity, arrangement_of}
use Rattle.permutation_group.proofs.odd_inversions.Given as goal

abbrev pub invariant-loop-i : goal.invariant-loop-i
invariant-loop-i l = Turned capacity (arrangement_of l.p) l.i l.seen l.odd
