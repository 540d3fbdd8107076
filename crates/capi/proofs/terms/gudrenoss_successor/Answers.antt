use Rattle.capi.proofs.terms.gudrenoss_successor.Goals as goal

pub returns : goal.returns
returns c = simp (c.successor.ensures, c.index.ensures) at c.indexed.ensures
