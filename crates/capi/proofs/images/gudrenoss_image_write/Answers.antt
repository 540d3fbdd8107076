-- `capi::images::gudrenoss_image_write` meets its contract: by those of the calls. Assumes nothing.
use Rattle.capi.proofs.images.gudrenoss_image_write.Goals as goal

pub returns : goal.returns
returns c = record { back = simp c.write.ensures.says at c.number.ensures.back; written = simp c.write.ensures.says at c.number.ensures.holds; holds = c.write.ensures.holds }
