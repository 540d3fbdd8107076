use Rattle.capi.proofs.terms.gudrenoss_pack.Goals as goal

pub returns : goal.returns
returns c = simp (c.pack.ensures, c.family.ensures) at c.indexed.ensures
