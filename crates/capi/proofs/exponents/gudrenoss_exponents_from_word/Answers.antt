use mathlib.Core.Path.{sym}
use Rattle.capi.proofs.exponents.gudrenoss_exponents_from_word.Goals as goal

pub returns : goal.returns
returns c = simp (sym c.from_word.ensures.says) record { back = c.number.ensures.back; written = c.number.ensures.holds; holds = c.from_word.ensures.holds }
