use Rattle.capi.proofs.permutations.gudrenoss_permutation_rank.Goals as goal

pub returns : goal.returns
returns c = simp (c.rank.ensures, c.lent.ensures) at c.number.ensures
