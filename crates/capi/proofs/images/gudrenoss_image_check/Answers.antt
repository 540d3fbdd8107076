-- `capi::images::gudrenoss_image_check` meets its contract: by those of the calls. Assumes nothing.
use Rattle.capi.proofs.images.gudrenoss_image_check.Goals as goal

pub returns : goal.returns
returns c = simp c.check.ensures at c.number.ensures
