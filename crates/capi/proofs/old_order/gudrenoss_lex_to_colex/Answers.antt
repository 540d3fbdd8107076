use Rattle.capi.proofs.old_order.gudrenoss_lex_to_colex.Goals as goal

pub returns : goal.returns
returns c = record { back = simp (c.convert.ensures.says, c.family.ensures) at c.number.ensures.back; written = simp (c.convert.ensures.says, c.family.ensures) at c.number.ensures.holds; holds = simp c.family.ensures at c.convert.ensures.holds }
