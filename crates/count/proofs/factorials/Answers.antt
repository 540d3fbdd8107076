-- `count::factorials` meets its contract: the table passes the test of its rule. Assumes nothing.
use mathlib.Core.Path.{refl}
use Rattle.count.proofs.Table.{table_of_21}
use Rattle.count.proofs.factorials.Goals as goal

pub returns : goal.returns
returns c = table_of_21 _ tt refl
