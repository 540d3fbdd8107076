use Rattle.capi.proofs.permutations.gudrenoss_permutation_sign.Goals as goal

pub returns : goal.returns
returns c = simp (c.sign.ensures, c.lent.ensures) at c.signed.ensures
