use Rattle.capi.proofs.signed.gudrenoss_complement.Goals as goal

pub returns : goal.returns
returns c = simp (c.complement.ensures, c.index.ensures) at c.signed.ensures
