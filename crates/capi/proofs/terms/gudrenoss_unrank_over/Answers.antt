use Rattle.capi.proofs.terms.gudrenoss_unrank_over.Goals as goal

pub returns : goal.returns
returns c = simp (c.unrank_over.ensures, c.family.ensures) at c.indexed.ensures
