-- `links::step::nothing` meets its contract. Assumes nothing.
use mathlib.Core.Path.{ap, ◌∙◌}
use native.Mathlib.Omega.{arith}
use Rattle.words.proofs.Digits.{rank-set-zero}
use Rattle.links.specs.Weight.{weight}
use Rattle.links.proofs.step.nothing.Goals as goal

pub returns : goal.returns
returns c = omega (arith, ap (weight c.args.i) c.requires ∙ rank-set-zero c.args.i)
