use Rattle.capi.proofs.signed.gudrenoss_canonicalise.Goals as goal

pub returns : goal.returns
returns c = simp (c.canonicalise.ensures, c.family.ensures) at c.signed.ensures
