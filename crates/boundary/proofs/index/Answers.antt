use mathlib.Core.Path.{ap}
use Rattle.boundary.proofs.index.Goals as goal

pub returns : goal.returns
returns c = ap (λ f. record { family = f; alphabet = c.args.n; bits = c.args.bits }) c.family-family.ensures
