-- `products::fits` meets its contract. Assumes nothing.
use mathlib.Core.Path.{◌≡◌, sym, ap, ◌∙◌}
use mathlib.Core.Bool.{true}
use lib.IntN.{pos, ◌*ℤ◌}
use mir.Syntax.{w64}
use mir.ValLaws.{to_z-of_z}
use Rattle.products.specs.Range.{inside}
use Rattle.products.proofs.Ranges.{inside-fewer}
use Rattle.products.proofs.fits.Goals as goal

pub returns-then-between_quotients : goal.returns-then-between_quotients
returns-then-between_quotients c =
    let e : inside (c.args.c *ℤ pos 64) ≡ true =
    sym (c.between_quotients.ensures ∙ ap (λ z. inside (z *ℤ pos 64)) (to_z-of_z w64 c.args.c c.ranges.c)) ∙ c.if-between_quotients.true in
    sym (inside-fewer c.args.c c.args.m c.requires.1 e)

pub returns : goal.returns
returns c =
    c.between_quotients-2.ensures ∙ ap (λ z. inside (z *ℤ pos c.args.m)) (to_z-of_z w64 c.args.c c.ranges.c)
