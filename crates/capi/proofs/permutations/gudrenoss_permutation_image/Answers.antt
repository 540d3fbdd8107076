use Rattle.capi.proofs.permutations.gudrenoss_permutation_image.Goals as goal

pub returns : goal.returns
returns c = simp (c.image.ensures, c.lent.ensures) at c.number.ensures
