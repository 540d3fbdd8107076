-- `halving::with` meets its contract, by the laws of `Search`. Assumes nothing.
use native.Mathlib.Omega.{arith}
use Rattle.halving.proofs.Search.{found_below, found_fits, found}
use Rattle.halving.proofs.with.Goals as goal

pub overflow_shl-result : goal.overflow_shl-result
overflow_shl-result c = omega (arith, c.requires.0.low, found_below c.requires.0 c.requires.1 c.requires.2)

pub overflow_add-result : goal.overflow_add-result
overflow_add-result c = omega (arith, found_fits c.requires.0 c.requires.1 c.requires.2 c.requires.3 c.requires.4)

pub returns : goal.returns
returns c = found c.requires.0 c.requires.1 c.requires.2 c.requires.3 c.requires.4
