use Rattle.capi.proofs.terms.gudrenoss_unpack.Goals as goal

pub returns : goal.returns
returns c = record { back = simp (c.unpack.ensures.says, c.index.ensures) at c.number.ensures.back; written = simp (c.unpack.ensures.says, c.index.ensures) at c.number.ensures.holds; holds = simp c.index.ensures at c.unpack.ensures.holds }
