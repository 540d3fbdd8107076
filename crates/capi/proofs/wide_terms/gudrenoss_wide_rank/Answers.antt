-- `gudrenoss_wide_rank` meets its contract: by those of the call and of the boundary. Assumes nothing.
use Rattle.capi.proofs.wide_terms.gudrenoss_wide_rank.Goals as goal

pub returns : goal.returns
returns c = simp (c.rank.ensures, c.family.ensures) at c.number.ensures
