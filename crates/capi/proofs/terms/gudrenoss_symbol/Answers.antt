use Rattle.capi.proofs.terms.gudrenoss_symbol.Goals as goal

pub returns : goal.returns
returns c = simp (c.symbol.ensures, c.index.ensures) at c.number.ensures
