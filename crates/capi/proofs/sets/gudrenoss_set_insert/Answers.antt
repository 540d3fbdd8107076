use Rattle.capi.proofs.sets.gudrenoss_set_insert.Goals as goal

pub returns : goal.returns
returns c = simp c.insert.ensures at c.number.ensures
