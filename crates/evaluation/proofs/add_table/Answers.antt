-- `evaluation::add_table` meets its contract, by whether a row has the degree. Assumes nothing.
use mathlib.Core.Path.{sym, ◌∙◌, ap}
use mathlib.Core.List.{List}
use Prim.Native.Nat.{ℕ, ◌+◌}
use native.Mathlib.Omega.{arith}
use Rattle.answers.specs.Says.{answer_says}
use Rattle.surface.specs.Mass.{add_terms}
use Rattle.surface.specs.Surface.{numbers_at}
use Rattle.surface.proofs.Rows.{found-body, no_body, contents_lie}
use Rattle.evaluation.specs.Rows.{from_row}
use Rattle.evaluation.proofs.Monomials.{no_table}
use Rattle.evaluation.proofs.add_table.Goals as goal

pub find-requires : goal.find-requires
find-requires c = contents_lie c.args.image.now c.args.t c.requires.0.good

pub overflow_mul-i : goal.overflow_mul-i
overflow_mul-i c = let b = found-body c.args.image.now c.args.t c.args.k c.in-Ok.i c.requires.0 (sym c.find.ensures ∙ ap answer_says c.in-Ok.is) in omega (arith, b.low)

pub overflow_add-i : goal.overflow_add-i
overflow_add-i c = let b = found-body c.args.image.now c.args.t c.args.k c.in-Ok.i c.requires.0 (sym c.find.ensures ∙ ap answer_says c.in-Ok.is) in omega (arith, b.low)

pub overflow_add-i-in-Ok : goal.overflow_add-i-in-Ok
overflow_add-i-in-Ok c = let b = found-body c.args.image.now c.args.t c.args.k c.in-Ok.i c.requires.0 (sym c.find.ensures ∙ ap answer_says c.in-Ok.is) in omega (arith, b.low)

pub four-requires : goal.four-requires
four-requires c = let b = found-body c.args.image.now c.args.t c.args.k c.in-Ok.i c.requires.0 (sym c.find.ensures ∙ ap answer_says c.in-Ok.is) in omega (arith, b.row)

pub add_degree-requires : goal.add_degree-requires
add_degree-requires c = let b = found-body c.args.image.now c.args.t c.args.k c.in-Ok.i c.requires.0 (sym c.find.ensures ∙ ap answer_says c.in-Ok.is) in (c.requires.1, omega (arith, b.body, c.four.ensures.0))

pub returns-in-Err : goal.returns-in-Err
returns-in-Err c = no_table _ _ _ (no_body c.args.image.now c.args.t c.args.k _ _ c.requires.0 (sym c.find.ensures ∙ ap answer_says c.in-Err.is))

pub returns-in-Ok : goal.returns-in-Ok
returns-in-Ok c =
    let b = found-body c.args.image.now c.args.t c.args.k c.in-Ok.i c.requires.0 (sym c.find.ensures ∙ ap answer_says c.in-Ok.is) in
    c.add_degree.ensures
    ∙ ap (λ (at : ℕ). add_terms (from_row c.args.row.now c.args.k) 0 (numbers_at c.args.image.now at (c.args.k + 1)) c.args.sum) c.four.ensures.0
    ∙ ap (λ (cs : List ℕ). add_terms (from_row c.args.row.now c.args.k) 0 cs c.args.sum) (sym b.table)
