-- `image_check::check_within` meets its contract. Assumes nothing.
use Rattle.image_check.proofs.Turns.{Turn}
use Rattle.image_check.proofs.check_within.Given as goal

abbrev pub invariant-loop-i : goal.invariant-loop-i
invariant-loop-i l = Turn l.s l.size l.t l.i l.place l.used
