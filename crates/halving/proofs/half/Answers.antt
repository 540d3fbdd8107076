-- `halving::half` meets its contract, by the laws of `Search`. Assumes nothing.
use native.Mathlib.Omega.{arith}
use Rattle.halving.proofs.Search.{upper, lower, index-small}
use Rattle.halving.proofs.half.Goals as goal

pub overflow_add-result : goal.overflow_add-result
overflow_add-result c = omega (arith, index-small c.requires.0 c.requires.3)

pub overflow_add-result-then-c-r : goal.overflow_add-result-then-c-r
overflow_add-result-then-c-r c = omega (arith, index-small c.requires.0 c.requires.3)

pub overflow_add-result-else-c-r : goal.overflow_add-result-else-c-r
overflow_add-result-else-c-r c = omega (arith, index-small c.requires.0 c.requires.3)

pub returns-then-c-r : goal.returns-then-c-r
returns-then-c-r c = upper c.requires.0 c.requires.1 c.requires.2 c.if-c-r.true

pub returns-else-c-r : goal.returns-else-c-r
returns-else-c-r c = lower c.requires.0 c.requires.1 c.requires.2 c.if-c-r.false
