-- `mass::some_other` meets its contract. The invariant: no row passed is another. Assumes nothing.
use mathlib.Core.Path.{◌≡◌}
use Rattle.surface.specs.Surface.{some_other}
use Rattle.mass.proofs.some_other.Given as goal

abbrev pub invariant-loop-i : goal.invariant-loop-i
invariant-loop-i l = some_other l.image l.t ≡ some_other l.image l.i
