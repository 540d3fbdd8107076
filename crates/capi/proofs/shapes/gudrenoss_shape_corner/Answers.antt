use Rattle.capi.proofs.shapes.gudrenoss_shape_corner.Goals as goal

pub returns : goal.returns
returns c = simp c.corner.ensures at c.number.ensures
