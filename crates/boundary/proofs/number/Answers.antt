use mathlib.Core.Path.{refl}
use Rattle.boundary.proofs.number.Goals as goal

pub returns-in-Err : goal.returns-in-Err
returns-in-Err c = simp (c.in-Err.is, c.refused.ensures) record { back = refl; holds = refl }
