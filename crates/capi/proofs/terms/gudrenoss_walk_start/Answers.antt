use Rattle.capi.proofs.terms.gudrenoss_walk_start.Goals as goal

pub returns : goal.returns
returns c = simp (c.start.ensures, c.family.ensures) at c.started.ensures
