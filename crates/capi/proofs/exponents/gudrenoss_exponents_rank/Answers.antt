use Rattle.capi.proofs.exponents.gudrenoss_exponents_rank.Goals as goal

pub returns : goal.returns
returns c = simp c.rank.ensures at c.number.ensures
