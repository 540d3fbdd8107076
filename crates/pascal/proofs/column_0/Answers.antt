-- `pascal::column_0` meets its contract. Assumes nothing.
use mathlib.Core.Path.{refl, sym}
use Rattle.pascal.proofs.Row.{entry_none}
use Rattle.pascal.proofs.column_0.Goals as goal

pub returns : goal.returns
returns c = sym (entry_none c.args.n 0 refl)
