-- `capi::masses::gudrenoss_mass` meets its contract: by those of the calls. Assumes nothing.
use Rattle.capi.proofs.masses.gudrenoss_mass.Goals as goal

pub returns : goal.returns
returns c = simp c.mass.ensures at c.massed.ensures
