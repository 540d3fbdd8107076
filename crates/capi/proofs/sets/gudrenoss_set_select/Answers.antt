use Rattle.capi.proofs.sets.gudrenoss_set_select.Goals as goal

pub returns : goal.returns
returns c = simp c.select.ensures at c.number.ensures
