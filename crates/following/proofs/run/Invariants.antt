-- `following::run` meets its contract, by the laws of `Runs`. Assumes nothing.
use Rattle.following.proofs.Runs.{Runs}
use Rattle.following.proofs.run.Given as goal

abbrev pub invariant-loop-t : goal.invariant-loop-t
invariant-loop-t l = Runs l.bits l.left l.top l.t
