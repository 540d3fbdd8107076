-- `halving::rows` meets its contract, by the laws of `Search`. Assumes nothing.
use native.Mathlib.Omega.{arith}
use Rattle.halving.proofs.Search.{window}
use Rattle.halving.proofs.rows.Goals as goal

pub returns : goal.returns
returns c = window c.requires.0 (omega arith) c.requires.1 c.requires.2 c.requires.3
