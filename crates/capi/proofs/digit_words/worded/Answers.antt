use mathlib.Core.Path.{refl}
use Rattle.capi.proofs.digit_words.worded.Goals as goal

pub returns-in-Ok : goal.returns-in-Ok
returns-in-Ok c = simp (c.in-Ok.is, c.answer.ensures) record { back = refl; degree = refl; rank = refl }

pub returns-in-Err : goal.returns-in-Err
returns-in-Err c = simp (c.in-Err.is, c.refused.ensures) record { back = refl; degree = refl; rank = refl }
