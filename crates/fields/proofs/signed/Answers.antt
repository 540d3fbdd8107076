-- `fields::signed` meets its contract: the list begins at the place of its first text. Assumes nothing.
use Rattle.fields.proofs.Lists.{signed_there}
use Rattle.fields.proofs.signed.Goals as goal

pub returns : goal.returns
returns c = signed_there _ _ c.args.table.now _ c.list.result c.place.ensures c.list.ensures
