-- `requests::number` meets its contract: past the values there is none, and 0 stands for it. Assumes nothing.
use native.Mathlib.Omega.{arith}
use mathlib.Core.Path.{sym}
use lib.ListN.{get_or-eq_default}
use Rattle.requests.proofs.number.Goals as goal

pub returns : goal.returns
returns c = sym (get_or-eq_default c.args.values.now 0 (omega arith))
