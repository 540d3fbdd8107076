-- `fields::number` meets its contract: by what reading the text answers. Assumes nothing.
use Rattle.fields.proofs.Letters.{number_is}
use Rattle.fields.proofs.number.Goals as goal

pub returns : goal.returns
returns c = rw c.unwrap_or.ensures (number_is _ _ c.read_number.result 0 c.text_at.ensures c.read_number.ensures)
