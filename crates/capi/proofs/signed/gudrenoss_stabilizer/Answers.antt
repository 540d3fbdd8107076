use Rattle.capi.proofs.signed.gudrenoss_stabilizer.Goals as goal

pub returns : goal.returns
returns c = simp (c.stabilizer.ensures, c.index.ensures) at c.number.ensures
