-- `capi::images::gudrenoss_image_row` meets its contract: by those of the calls. Assumes nothing.
use Rattle.capi.proofs.images.gudrenoss_image_row.Goals as goal

pub returns : goal.returns
returns c = simp (c.row.ensures, c.family.ensures) at c.table.ensures
