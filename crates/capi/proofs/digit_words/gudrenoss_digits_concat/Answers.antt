use Rattle.capi.proofs.digit_words.gudrenoss_digits_concat.Goals as goal

pub returns : goal.returns
returns c = simp c.concat.ensures at c.worded.ensures
