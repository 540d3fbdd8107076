use Rattle.capi.proofs.old_order.gudrenoss_lex_unrank.Goals as goal

pub returns : goal.returns
returns c = record { back = simp (c.unrank.ensures.says, c.family.ensures) at c.number.ensures.back; written = simp (c.unrank.ensures.says, c.family.ensures) at c.number.ensures.holds; holds = simp c.family.ensures at c.unrank.ensures.holds }
