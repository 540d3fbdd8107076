-- `pascal::recurrence` meets its contract. The loop's invariant: c is place i of row n. Assumes nothing.
use mathlib.Core.Path.{◌≡◌}
use Rattle.pascal.specs.Choose.{choose}
use Rattle.pascal.proofs.recurrence.Given as goal

abbrev pub invariant-loop-i : goal.invariant-loop-i
invariant-loop-i l = l.c ≡ choose l.n l.i
