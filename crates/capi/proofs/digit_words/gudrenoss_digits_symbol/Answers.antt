use Rattle.capi.proofs.digit_words.gudrenoss_digits_symbol.Goals as goal

pub returns : goal.returns
returns c = simp c.symbol.ensures at c.number.ensures
