-- `requests::list_before` meets its contract: up to a place within the values, and all of them otherwise. Assumes nothing.
use native.Mathlib.Omega.{arith}
use mathlib.Core.Path.{sym}
use native.Mathlib.Nat.{sub-zero}
use lib.Seq.{take_all}
use Rattle.requests.proofs.list_before.Goals as goal

pub returns-then-slash-values : goal.returns-then-slash-values
returns-then-slash-values c = rw sub-zero

pub returns : goal.returns
returns c = sym (take_all c.args.slash c.args.values.now (omega arith))
