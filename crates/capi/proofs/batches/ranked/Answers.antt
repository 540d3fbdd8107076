use mathlib.Core.Path.{refl}
use Rattle.capi.proofs.batches.ranked.Goals as goal

pub returns-in-Err : goal.returns-in-Err
returns-in-Err c = simp (c.in-Err.is, c.number-number.ensures) record { back = refl; holds = refl }
