-- `conversion::place_in` meets its contract. Assumes nothing.
use Rattle.std.proofs.Common.{sym, ap}
use Rattle.conversion.specs.Rules.{place_in}
use Rattle.conversion.proofs.place_in.Goals as goal

pub returns-then-colex : goal.returns-then-colex
returns-then-colex c = ap (λ t. place_in t c.args.c c.args.q c.args.later) (sym c.if-colex.true)

pub returns : goal.returns
returns c = ap (λ t. place_in t c.args.c c.args.q c.args.later) (sym c.if-colex.false)
