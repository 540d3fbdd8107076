use Rattle.capi.proofs.signed.gudrenoss_merge.Goals as goal

pub returns : goal.returns
returns c = simp (c.merge.ensures, c.index-right.ensures, c.index-left.ensures) at c.signed.ensures
