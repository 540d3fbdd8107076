use Rattle.capi.proofs.digit_words.gudrenoss_digits_multiplicity.Goals as goal

pub returns : goal.returns
returns c = simp c.multiplicity.ensures at c.number.ensures
