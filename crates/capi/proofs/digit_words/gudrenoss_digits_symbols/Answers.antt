use mathlib.Core.Path.{sym}
use Rattle.capi.proofs.digit_words.gudrenoss_digits_symbols.Goals as goal

pub returns : goal.returns
returns c = simp (sym c.symbols.ensures.says) record { back = c.number.ensures.back; written = c.number.ensures.holds; holds = c.symbols.ensures.holds }
