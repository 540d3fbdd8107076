-- `taking::wide` meets its contract: an alphabet above 64 is too wide by itself. Assumes nothing.
use mathlib.Core.Path.{sym, ap}
use lib.Dec.{ltb}
use Rattle.taking.proofs.Accepted.{wide-alphabet}
use Rattle.taking.proofs.wide.Goals as goal

pub returns-then-x-gt64 : goal.returns-then-x-gt64
returns-then-x-gt64 c = sym (wide-alphabet c.args.x c.if-x-gt64.true)

pub returns : goal.returns
returns c = ap (ltb 64) c.top.ensures
