use Rattle.capi.proofs.old_order.gudrenoss_lex_rank.Goals as goal

pub returns : goal.returns
returns c = simp (c.rank.ensures, c.family.ensures) at c.number.ensures
