-- `permutation_group::inverted` meets its contract: each entry passed has its place stored. Assumes nothing.
use Rattle.permutation.specs.Record.{arrangement_of}
use Rattle.permutation.proofs.Filled.{Inverted}
use Rattle.permutation_group.proofs.inverted.Given as goal

abbrev pub invariant-loop-i : goal.invariant-loop-i
invariant-loop-i l = Inverted (arrangement_of l.p) l.n l.i l.places
