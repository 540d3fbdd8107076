-- `gudrenoss_wide_delete` meets its contract: by those of the call and of the boundary. Assumes nothing.
use Rattle.capi.proofs.wide_terms.gudrenoss_wide_delete.Goals as goal

pub returns : goal.returns
returns c = simp (c.delete.ensures, c.index.ensures) at c.deleted.ensures
