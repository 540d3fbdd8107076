use Rattle.capi.proofs.terms.gudrenoss_walk_step.Goals as goal

pub returns : goal.returns
returns c = simp (c.step.ensures, c.walk-state.ensures) at c.stepped.ensures
