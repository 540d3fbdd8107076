-- `fields::family` meets its contract: by what the text names. Assumes nothing.
use Rattle.words.specs.declared.Family.TheVariants.{Forbidden}
use Rattle.fields.proofs.Letters.{family-is}
use Rattle.fields.proofs.family.Goals as goal

pub returns : goal.returns
returns c = rw c.unwrap_or.ensures (family-is _ _ c.family.result Forbidden c.text_at.ensures c.family.ensures)
