use mathlib.Core.Path.{refl}
use Rattle.boundary.proofs.indexed.Goals as goal

pub returns-in-Ok : goal.returns-in-Ok
returns-in-Ok c = simp (c.in-Ok.is, c.answer.ensures) record { back = refl; alphabet = refl; bits = refl }

pub returns-in-Err : goal.returns-in-Err
returns-in-Err c = simp (c.in-Err.is, c.refused.ensures) record { back = refl; alphabet = refl; bits = refl }
