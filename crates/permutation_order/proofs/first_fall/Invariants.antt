-- `permutation_order::first_fall` meets its contract: the entries passed rise. Assumes nothing.
use Rattle.arrangements.specs.Step.{Rises}
use Rattle.permutation.specs.Record.{arrangement_of}
use Rattle.permutation_order.proofs.first_fall.Given as goal

abbrev pub invariant-loop-k : goal.invariant-loop-k
invariant-loop-k l = Rises (arrangement_of l.p) l.k
