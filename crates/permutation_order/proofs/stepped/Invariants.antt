-- `permutation_order::stepped` meets its contract: the places passed hold the step. Assumes nothing.
use Rattle.arrangements.specs.Step.{step}
use Rattle.answers.proofs.Lent.{Filled}
use Rattle.permutation.specs.Record.{empty_entries, arrangement_of}
use Rattle.permutation.proofs.Filled.{at}
use Rattle.permutation_order.proofs.stepped.Given as goal

abbrev pub invariant-loop-j : goal.invariant-loop-j
invariant-loop-j l = Filled (at (step l.i l.k (arrangement_of l.p))) empty_entries l.out l.j
