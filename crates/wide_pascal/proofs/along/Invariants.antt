-- `wide_pascal::along` meets its contract. Assumes nothing.
use mathlib.Core.Path.{◌≡◌}
use Rattle.pascal.specs.Choose.{choose}
use Rattle.wide_pascal.proofs.along.Given as goal

abbrev pub invariant-loop-i : goal.invariant-loop-i
invariant-loop-i l = l.c ≡ choose l.n l.i
