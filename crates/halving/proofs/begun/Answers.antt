-- `halving::begun` meets its contract, by the laws of `Search`. Assumes nothing.
use mathlib.Core.Path.{refl}
use Rattle.halving.proofs.Search.{started}
use Rattle.halving.proofs.begun.Goals as goal

pub returns : goal.returns
returns c = (started c.requires.0 c.requires.1 c.requires.2 c.requires.3, refl)
