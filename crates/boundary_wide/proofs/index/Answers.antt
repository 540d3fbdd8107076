-- `boundary_wide::index` meets its contract. Assumes nothing.
use mathlib.Core.Path.{ap}
use Rattle.boundary_wide.proofs.index.Goals as goal

pub returns : goal.returns
returns c = ap (λ f. record { family = f; low = c.args.low; high = c.args.high }) c.family-family.ensures
