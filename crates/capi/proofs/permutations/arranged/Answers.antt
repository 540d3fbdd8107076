use mathlib.Core.Path.{refl}
use Rattle.capi.proofs.permutations.arranged.Goals as goal

pub returns-in-Ok : goal.returns-in-Ok
returns-in-Ok c = simp (c.in-Ok.is, c.handed.ensures.back, c.handed.ensures.holds, c.handed.ensures.long) record { back = refl; holds = refl; long = refl }

pub returns-in-Err : goal.returns-in-Err
returns-in-Err c = simp (c.in-Err.is, c.refused.ensures) record { back = refl; holds = refl; long = refl }
