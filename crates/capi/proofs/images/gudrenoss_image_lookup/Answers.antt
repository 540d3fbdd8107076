-- `capi::images::gudrenoss_image_lookup` meets its contract: by those of the calls. Assumes nothing.
use Rattle.capi.proofs.images.gudrenoss_image_lookup.Goals as goal

pub returns : goal.returns
returns c = simp (c.lookup.ensures, c.index.ensures) at c.number.ensures
