-- `capi::masses::gudrenoss_join` meets its contract: by those of the calls. Assumes nothing.
use Rattle.capi.proofs.masses.gudrenoss_join.Goals as goal

pub returns : goal.returns
returns c = simp c.join.ensures at c.joined.ensures
