-- `permutation_group::composed` meets its contract: the places passed hold p after q. Assumes nothing.
use Rattle.arrangements.specs.Permutation.{compose}
use Rattle.answers.proofs.Lent.{Filled}
use Rattle.permutation.specs.Record.{arrangement_of, empty_entries}
use Rattle.permutation.proofs.Filled.{at}
use Rattle.permutation_group.proofs.composed.Given as goal

abbrev pub invariant-loop-i : goal.invariant-loop-i
invariant-loop-i l = Filled (at (compose (arrangement_of l.p) (arrangement_of l.q))) empty_entries l.out l.i
