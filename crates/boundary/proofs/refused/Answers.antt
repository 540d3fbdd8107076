use mathlib.Core.Path.{refl}
use Rattle.boundary.proofs.refused.Goals as goal

pub returns : goal.returns
returns c = simp (c.number-number.ensures, c.place-at.ensures) refl
