-- `gudrenoss_wide_unrank` meets its contract: by those of the call and of the boundary. Assumes nothing.
use Rattle.capi.proofs.wide_terms.gudrenoss_wide_unrank.Goals as goal

pub returns : goal.returns
returns c = record { back = simp (c.unrank.ensures.says, c.family.ensures) at c.number.ensures.back; written = simp (c.unrank.ensures.says, c.family.ensures) at c.number.ensures.holds; holds = simp c.family.ensures at c.unrank.ensures.holds }
