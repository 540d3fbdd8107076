-- `gudrenoss_wide_successor` meets its contract: by those of the call and of the boundary. Assumes nothing.
use Rattle.capi.proofs.wide_terms.gudrenoss_wide_successor.Goals as goal

pub returns : goal.returns
returns c = simp (c.successor.ensures, c.index.ensures) at c.indexed.ensures
