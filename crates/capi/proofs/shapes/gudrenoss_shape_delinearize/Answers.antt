use mathlib.Core.Path.{sym}
use Rattle.capi.proofs.shapes.gudrenoss_shape_delinearize.Goals as goal

pub returns : goal.returns
returns c = simp (sym c.delinearize.ensures.says) record { back = c.number.ensures.back; written = c.number.ensures.holds; holds = c.delinearize.ensures.holds }
