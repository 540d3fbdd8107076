use Rattle.capi.proofs.digit_words.gudrenoss_digits_count.Goals as goal

pub returns : goal.returns
returns c = simp c.count.ensures at c.number.ensures
