-- `requests::list_after` meets its contract: the whole of what is left is what the part has. Assumes nothing.
use native.Mathlib.Omega.{arith}
use mathlib.Core.Path.{sym}
use Prim.Native.Nat.{◌+◌, ◌-◌}
use lib.ListN.{length, drop, length-drop, drop_of_length-le}
use lib.Seq.{take_all}
use Rattle.requests.proofs.list_after.Goals as goal

pub returns-then-slash-values : goal.returns-then-slash-values
returns-then-slash-values c = take_all (length c.args.values.now - (c.args.slash + 1)) (drop (c.args.slash + 1) c.args.values.now) (simp length-drop (omega arith))

pub returns : goal.returns
returns c = sym (drop_of_length-le c.args.values.now {i = (c.args.slash + 1)} (omega arith))
