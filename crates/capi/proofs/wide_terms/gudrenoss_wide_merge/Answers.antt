-- `gudrenoss_wide_merge` meets its contract: by those of the call and of the boundary. Assumes nothing.
use Rattle.capi.proofs.wide_terms.gudrenoss_wide_merge.Goals as goal

pub returns : goal.returns
returns c = simp (c.merge.ensures, c.index-right.ensures, c.index-left.ensures) at c.signed.ensures
