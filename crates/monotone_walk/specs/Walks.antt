-- The steps of a walk over the words of a family, degree and alphabet (01, "Walk step"). Assumes nothing.
--   step_says s    4 if there is no current index; the current index taken; 4 if nothing remains; the current index, with the state moved to its successor (or none) and one fewer remaining
use Rattle.std.specs.Prelude.{Option, Some, None, ℕ, ◌-◌, eqb}
use Rattle.answers.specs.declared.Index.{Index}
use Rattle.answers.specs.Says.{Says, refuses_with, refuses, gives, refused_if}
use Rattle.monotone_walk.specs.declared.Walk.{Walk}
use Rattle.monotone_walk.specs.Rules.{successor_says}
use Rattle.taking.specs.Taken.{taken}
use Rattle.monotone_walk.specs.declared.Moved.{Moved}

-- where a walk stands after an index: at its successor, or nowhere
abbrev pub current : Says Index → Option Index
current (refuses_with e p) = None
current (gives x) = Some x

abbrev pub step_from : Option Index → ℕ → Says Moved
step_from None n = refuses 4
step_from (Some x) n = taken x (refused_if (eqb n 0) 4 (gives (record { index = x; state = record { current = current (successor_says x); remaining = n - 1 } })))

abbrev pub step_says : Walk → Says Moved
step_says s = step_from s.current s.remaining
