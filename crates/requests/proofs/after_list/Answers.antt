-- `requests::after_list` meets its contract: a list ends where its numbers end, and too many are none. Assumes nothing.
use native.Mathlib.Omega.{arith}
use Rattle.requests.proofs.Fitting.{after-few, after-many}
use Rattle.requests.proofs.after_list.Goals as goal

pub returns-then-to-i : goal.returns-then-to-i
returns-then-to-i c = after-many c.args.kinds.now c.args.i c.args.most (omega (arith, c.after_numbers-to.ensures))

pub returns : goal.returns
returns c = after-few c.args.kinds.now c.args.i c.args.most _ c.after_numbers-to.ensures (omega (arith, c.after_numbers-to.ensures))
