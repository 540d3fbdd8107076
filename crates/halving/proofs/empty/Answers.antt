-- `halving::empty` meets its contract, by the laws of `Search`. Assumes nothing.
use Rattle.halving.proofs.Search.{no_numbers}
use Rattle.halving.proofs.empty.Goals as goal

pub returns : goal.returns
returns c = no_numbers _ _ c.requires
