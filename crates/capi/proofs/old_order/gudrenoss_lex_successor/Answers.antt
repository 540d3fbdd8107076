use Rattle.capi.proofs.old_order.gudrenoss_lex_successor.Goals as goal

pub returns : goal.returns
returns c = record { back = simp (c.successor.ensures.says, c.family.ensures) at c.number.ensures.back; written = simp (c.successor.ensures.says, c.family.ensures) at c.number.ensures.holds; holds = simp c.family.ensures at c.successor.ensures.holds }
