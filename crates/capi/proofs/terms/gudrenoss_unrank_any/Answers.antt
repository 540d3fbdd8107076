use Rattle.capi.proofs.terms.gudrenoss_unrank_any.Goals as goal

pub returns : goal.returns
returns c = simp (c.unrank_any.ensures, c.family.ensures) at c.indexed.ensures
