use Rattle.capi.proofs.digit_words.gudrenoss_digits_stabilizer.Goals as goal

pub returns : goal.returns
returns c = simp c.stabilizer.ensures at c.number.ensures
