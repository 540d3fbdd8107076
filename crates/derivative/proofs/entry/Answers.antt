-- `derivative::entry` meets its contract. Assumes nothing.
use mathlib.Core.Path.{◌≡◌, ap, ◌∙◌}
use native.Mathlib.Omega.{arith}
use lib.ListN.{get_or}
use lib.IntN.{pos, ◌*ℤ◌}
use mir.Syntax.{w64}
use mir.ValLaws.{to_z-of_z}
use Rattle.products.specs.Range.{inside}
use Rattle.products.proofs.Ranges.{inside_fits}
use Rattle.derivative.proofs.entry.Goals as goal

pub offset_bounds-table-q : goal.offset_bounds-table-q
offset_bounds-table-q c = omega (arith, c.requires.0)

pub bounds-table-q : goal.bounds-table-q
bounds-table-q c = c.requires.0

pub product-requires : goal.product-requires
product-requires c = (c.requires.1, ap (λ z. inside (z *ℤ pos c.args.x.times)) (to_z-of_z w64 (get_or c.args.table.now c.args.x.rank (pos 0)) (record { sfits = c.c-1.given })) ∙ c.requires.2)

pub returns : goal.returns
returns c =
    let e : c.product.result ≡ get_or c.args.table.now c.args.x.rank (pos 0) *ℤ pos c.args.x.times =
    c.product.ensures ∙ ap (λ z. z *ℤ pos c.args.x.times) (to_z-of_z w64 (get_or c.args.table.now c.args.x.rank (pos 0)) (record { sfits = c.c-1.given })) in
    to_z-of_z w64 c.product.result (inside_fits c.product.result (ap inside e ∙ c.requires.2)) ∙ e
