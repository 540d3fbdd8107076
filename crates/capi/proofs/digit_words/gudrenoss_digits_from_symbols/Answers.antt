use Rattle.capi.proofs.digit_words.gudrenoss_digits_from_symbols.Goals as goal

pub returns : goal.returns
returns c = simp c.from_symbols.ensures at c.worded.ensures
