use Rattle.capi.proofs.terms.gudrenoss_rank_of.Goals as goal

pub returns : goal.returns
returns c = simp (c.rank_of.ensures, c.index.ensures) at c.number.ensures
