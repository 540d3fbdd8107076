-- `wide_table::at` meets its contract. Assumes nothing.
use mathlib.Core.Path.{sym, ◌∙◌}
use native.Mathlib.Omega.{arith}
use Rattle.pascal.proofs.Row.{entry-few}
use Rattle.wide_pascal.proofs.Steps.{held}
use Rattle.wide_table.proofs.Same.{same_capped, narrow-held}
use Rattle.wide_table.proofs.at.Goals as goal

pub returns-then-n-k : goal.returns-then-n-k
returns-then-n-k c = held c.args.n c.args.k 0 (omega arith) (sym (entry-few _ _ c.if-n-k.true))

pub returns-then-n-le64 : goal.returns-then-n-le64
returns-then-n-le64 c = narrow-held c.args.n c.args.k _ c.if-n-le64.true c.at.ensures

pub returns : goal.returns
returns c = c.by_column.ensures ∙ same_capped c.args.n c.nearer.result c.args.k c.nearer.ensures.0
