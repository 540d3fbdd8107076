use Rattle.capi.proofs.shapes.gudrenoss_shape_count.Goals as goal

pub returns : goal.returns
returns c = simp c.shape_count.ensures at c.number.ensures
