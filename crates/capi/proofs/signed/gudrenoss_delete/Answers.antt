use Rattle.capi.proofs.signed.gudrenoss_delete.Goals as goal

pub returns : goal.returns
returns c = simp (c.delete.ensures, c.index.ensures) at c.deleted.ensures
