use mathlib.Core.Path.{sym}
use Rattle.capi.proofs.shapes.gudrenoss_shape_strides.Goals as goal

pub returns : goal.returns
returns c = simp (sym c.strides.ensures.says) record { back = c.number.ensures.back; written = c.number.ensures.holds; holds = c.strides.ensures.holds }
