-- `capi::images::gudrenoss_image_at` meets its contract: by those of the calls. Assumes nothing.
use Rattle.capi.proofs.images.gudrenoss_image_at.Goals as goal

pub returns : goal.returns
returns c = simp (c.lookup_at.ensures, c.index.ensures) at c.number.ensures
