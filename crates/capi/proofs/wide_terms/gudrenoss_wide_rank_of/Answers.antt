-- `gudrenoss_wide_rank_of` meets its contract: by those of the call and of the boundary. Assumes nothing.
use Rattle.capi.proofs.wide_terms.gudrenoss_wide_rank_of.Goals as goal

pub returns : goal.returns
returns c = simp (c.rank_of.ensures, c.index.ensures) at c.number.ensures
