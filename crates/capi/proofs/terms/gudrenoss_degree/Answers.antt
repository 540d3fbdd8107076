use Rattle.capi.proofs.terms.gudrenoss_degree.Goals as goal

pub returns : goal.returns
returns c = simp (c.degree.ensures, c.index.ensures) at c.number.ensures
