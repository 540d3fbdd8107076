-- `products::product` meets its contract. Assumes nothing.
use mathlib.Core.Path.{sym, ap, subst, ◌∙◌}
use lib.IntN.{pos, ◌*ℤ◌}
use mir.Syntax.{w64}
use mir.Val.{SFits, to_z, of_z}
use mir.ValLaws.{to_z-of_z}
use Rattle.products.proofs.Ranges.{inside_fits, factors}
use Rattle.products.proofs.product.Goals as goal

pub overflow_mul-result : goal.overflow_mul-result
overflow_mul-result c = subst (SFits w64) (sym (factors c.args.c c.args.m c.ranges.c c.requires.0)) (inside_fits (c.args.c *ℤ pos c.args.m) c.requires.1)

pub returns : goal.returns
returns c = ap (λ z. to_z w64 (of_z w64 z)) (factors c.args.c c.args.m c.ranges.c c.requires.0) ∙ to_z-of_z w64 (c.args.c *ℤ pos c.args.m) (inside_fits (c.args.c *ℤ pos c.args.m) c.requires.1)
