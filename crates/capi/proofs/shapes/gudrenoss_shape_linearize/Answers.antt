use Rattle.capi.proofs.shapes.gudrenoss_shape_linearize.Goals as goal

pub returns : goal.returns
returns c = simp c.linearize.ensures at c.number.ensures
