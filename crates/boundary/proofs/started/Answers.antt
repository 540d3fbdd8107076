use mathlib.Core.Path.{refl}
use Rattle.boundary.proofs.started.Goals as goal

pub returns-in-Ok : goal.returns-in-Ok
returns-in-Ok c = simp (c.in-Ok.is, c.is_standing.ensures, c.alphabet_there.ensures, c.bits_there.ensures, c.answer.ensures) record { back = refl; standing = refl; over = refl; at = refl; remaining = refl }

pub returns-in-Err : goal.returns-in-Err
returns-in-Err c = simp (c.in-Err.is, c.refused.ensures) record { back = refl; standing = refl; over = refl; at = refl; remaining = refl }
