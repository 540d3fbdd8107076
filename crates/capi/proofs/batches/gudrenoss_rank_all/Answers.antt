use Rattle.capi.proofs.batches.gudrenoss_rank_all.Goals as goal

pub returns : goal.returns
returns c = record { back = simp (c.rank_all.ensures.says, c.family.ensures) at c.ranked.ensures.back; written = simp (c.rank_all.ensures.says, c.family.ensures) at c.ranked.ensures.holds; holds = simp c.family.ensures at c.rank_all.ensures.holds }
