use mathlib.Core.Path.{sym}
use Rattle.capi.proofs.derivation.gudrenoss_derivative.Goals as goal

pub returns : goal.returns
returns c = simp (sym c.derivative.ensures.says) record { back = c.number.ensures.back; written = c.number.ensures.holds; holds = c.derivative.ensures.holds }
