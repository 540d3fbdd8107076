-- `gudrenoss_wide_unrank_over` meets its contract: by those of the call and of the boundary. Assumes nothing.
use Rattle.capi.proofs.wide_terms.gudrenoss_wide_unrank_over.Goals as goal

pub returns : goal.returns
returns c = simp (c.unrank_over.ensures, c.family.ensures) at c.indexed.ensures
