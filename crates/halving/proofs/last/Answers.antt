-- `halving::last` meets its contract, by the laws of `Search`. Assumes nothing.
use native.Mathlib.Omega.{arith}
use Rattle.halving.proofs.Search.{below_width, one_fits, one_number}
use Rattle.halving.proofs.last.Goals as goal

pub overflow_shl-result : goal.overflow_shl-result
overflow_shl-result c = omega (arith, c.requires.low, below_width c.requires)

pub overflow_add-result : goal.overflow_add-result
overflow_add-result c = omega (arith, one_fits c.requires)

pub returns : goal.returns
returns c = one_number c.requires
