-- `halving::below` meets its contract, by the laws of `Search`. Assumes nothing.
use mathlib.Core.Path.{refl}
use Rattle.halving.proofs.Search.{lowered}
use Rattle.halving.proofs.below.Goals as goal

pub returns : goal.returns
returns c = (lowered c.requires.0 c.requires.1 c.requires.2 c.requires.3, refl)
