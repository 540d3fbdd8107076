use Rattle.capi.proofs.terms.gudrenoss_count.Goals as goal

pub returns : goal.returns
returns c = simp (c.count.ensures, c.family.ensures) at c.number.ensures
