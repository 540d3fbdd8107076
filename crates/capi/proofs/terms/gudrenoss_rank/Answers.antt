use Rattle.capi.proofs.terms.gudrenoss_rank.Goals as goal

pub returns : goal.returns
returns c = simp (c.rank.ensures, c.family.ensures) at c.number.ensures
