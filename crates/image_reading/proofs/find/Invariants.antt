-- `image_reading::find` meets its contract. Assumes nothing.
use mathlib.Core.Path.{◌≡◌}
use Rattle.image_reading.specs.Reading.{find_row}
use Rattle.image_reading.proofs.find.Given as goal

abbrev pub invariant-loop-i : goal.invariant-loop-i
invariant-loop-i l = find_row l.s l.f l.k l.t ≡ find_row l.s l.f l.k l.i
