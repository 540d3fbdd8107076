-- `wide_pascal::nearer` meets its contract. Assumes nothing.
use native.Mathlib.Omega.{arith}
use Rattle.pascal.proofs.Row.{entry-mirror}
use Rattle.wide_pascal.proofs.nearer.Goals as goal

pub returns-then-n-k : goal.returns-then-n-k
returns-then-n-k c = (entry-mirror _ _ c.requires, omega arith)
