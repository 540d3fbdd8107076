use Rattle.capi.proofs.digit_words.gudrenoss_digits_delete.Goals as goal

pub returns : goal.returns
returns c = simp c.delete.ensures at c.deleted.ensures
