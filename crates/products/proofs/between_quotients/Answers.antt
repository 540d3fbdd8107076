-- `products::between_quotients` meets its contract, by the laws of `Ranges`. Assumes nothing.
use Rattle.products.proofs.Ranges.{most-fits, least_fits, too-great, too_small, in-range}
use Rattle.products.proofs.between_quotients.Goals as goal

pub nonzero_div-d : goal.nonzero_div-d
nonzero_div-d c = (c.requires.0, most-fits c.args.m c.requires.0 c.requires.1)

pub returns-then-d-c : goal.returns-then-d-c
returns-then-d-c c = too-great c.args.m c.requires.0 c.requires.1 c.args.c c.ranges.c c.if-d-c.true

pub nonzero_div-d-2 : goal.nonzero_div-d-2
nonzero_div-d-2 c = (c.requires.0, least_fits c.args.m c.requires.0 c.requires.1)

pub returns-then-c-d : goal.returns-then-c-d
returns-then-c-d c = too_small c.args.m c.requires.0 c.requires.1 c.args.c c.ranges.c c.if-c-d.true

pub returns : goal.returns
returns c = in-range c.args.m c.requires.0 c.requires.1 c.args.c c.ranges.c c.if-d-c.false c.if-c-d.false
