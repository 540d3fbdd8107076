use Rattle.capi.proofs.sets.gudrenoss_set_position.Goals as goal

pub returns : goal.returns
returns c = simp c.position.ensures at c.number.ensures
