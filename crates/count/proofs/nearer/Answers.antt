-- `count::nearer` meets its contract: a row is its own mirror image. Assumes nothing.
use mathlib.Core.Path.{refl}
use native.Mathlib.Omega.{arith}
use Rattle.pascal.proofs.Row.{entry-mirror}
use Rattle.count.proofs.nearer.Goals as goal

pub returns-then-n-k : goal.returns-then-n-k
returns-then-n-k c = (entry-mirror _ _ c.requires, omega arith)

pub returns-else-n-k : goal.returns-else-n-k
returns-else-n-k c = (refl, omega arith)
