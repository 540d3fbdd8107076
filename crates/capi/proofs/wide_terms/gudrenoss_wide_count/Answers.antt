-- `gudrenoss_wide_count` meets its contract: by those of the call and of the boundary. Assumes nothing.
use Rattle.capi.proofs.wide_terms.gudrenoss_wide_count.Goals as goal

pub returns : goal.returns
returns c = simp (c.count.ensures, c.family.ensures) at c.number.ensures
