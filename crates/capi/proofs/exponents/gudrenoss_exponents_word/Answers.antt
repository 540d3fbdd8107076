use mathlib.Core.Path.{sym}
use Rattle.capi.proofs.exponents.gudrenoss_exponents_word.Goals as goal

pub returns : goal.returns
returns c = simp (sym c.word.ensures.says) record { back = c.number.ensures.back; written = c.number.ensures.holds; holds = c.word.ensures.holds }
