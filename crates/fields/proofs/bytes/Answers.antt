-- `fields::bytes` meets its contract: the text is the one at the place. Assumes nothing.
use Rattle.fields.proofs.Places.{bytes_there}
use Rattle.fields.proofs.bytes.Goals as goal

pub returns : goal.returns
returns c = bytes_there _ _ _ _ _ c.text_at.ensures c.bytes.ensures
