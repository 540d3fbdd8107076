use mathlib.Core.Path.{sym}
use Rattle.capi.proofs.exponents.gudrenoss_exponents_from_rank.Goals as goal

pub returns : goal.returns
returns c = simp (sym c.from_rank.ensures.says) record { back = c.number.ensures.back; written = c.number.ensures.holds; holds = c.from_rank.ensures.holds }
