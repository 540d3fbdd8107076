-- `requests::list` meets its contract: the whole of what is left is what the part has. Assumes nothing.
use native.Mathlib.Omega.{arith}
use mathlib.Core.Path.{sym}
use Prim.Native.Nat.{◌-◌}
use lib.ListN.{length, drop, length-drop, drop_of_length-le}
use lib.Seq.{take_all}
use Rattle.requests.proofs.list.Goals as goal

pub returns-then-i-values : goal.returns-then-i-values
returns-then-i-values c = take_all (length c.args.values.now - c.args.i) (drop c.args.i c.args.values.now) (simp length-drop (omega arith))

pub returns : goal.returns
returns c = sym (drop_of_length-le c.args.values.now {i = c.args.i} (omega arith))
