use mathlib.Core.Path.{refl}
use Rattle.boundary.proofs.signed.Goals as goal

pub returns-in-Ok : goal.returns-in-Ok
returns-in-Ok c = simp (c.in-Ok.is, c.is_minus.ensures, c.answer.ensures) record { back = refl; sign = refl; alphabet = refl; bits = refl }

pub returns-in-Err : goal.returns-in-Err
returns-in-Err c = simp (c.in-Err.is, c.refused.ensures) record { back = refl; sign = refl; alphabet = refl; bits = refl }
