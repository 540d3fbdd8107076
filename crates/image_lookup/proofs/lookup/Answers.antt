-- `image_lookup::lookup` meets its contract. Assumes nothing.
use mathlib.Core.Path.{sym, ap, ◌∙◌}
use native.Mathlib.Omega.{arith}
use lib.ListN.{length}
use Rattle.answers.specs.Says.{answer_says}
use Rattle.answers.specs.Terms.{word_of}
use Rattle.answers.proofs.Says.{passed_on}
use Rattle.answers.proofs.Terms.{rank_of_word_lem}
use Rattle.taking.proofs.Accepted.{took}
use Rattle.image_lookup.specs.Lookup.{entry_says}
use Rattle.image_lookup.proofs.Looking.{Body, body_of, row_by_ones, looked, look-refused, look-entry}
use Rattle.image_lookup.proofs.lookup.Goals as goal

pub returns-in_err-take : goal.returns-in_err-take
returns-in_err-take c = passed_on c.from_residual.result _ c.from_residual.ensures.1 ∙ took c.args.x (looked c.args.image.now c.args.x) c.take.result _ c.take.ensures c.in_err-take.was

pub entry-requires : goal.entry-requires
entry-requires c =
    let g : Body c.args.image.now c.args.x.family (length (word_of c.args.x)) c.in_ok-t.t = body_of c.args.image.now c.args.x.family (length (word_of c.args.x)) c.in_ok-t.t (sym (row_by_ones c.args.image.now c.args.x c.count_ones.result c.count_ones.ensures) ∙ sym c.row.ensures ∙ ap answer_says c.in_ok-t.was) in
    (g.within, omega (arith, g.short))

pub returns-in_err-t : goal.returns-in_err-t
returns-in_err-t c =
    passed_on c.from_residual-in_err-t.result _ c.from_residual-in_err-t.ensures.1
    ∙ look-refused c.args.image.now c.args.x _ _ (sym (row_by_ones c.args.image.now c.args.x c.count_ones.result c.count_ones.ensures) ∙ sym c.row.ensures ∙ ap answer_says c.in_err-t.was)
    ∙ took c.args.x (looked c.args.image.now c.args.x) c.take.result _ c.take.ensures c.in_ok-take.was

pub returns : goal.returns
returns c =
    c.entry.ensures ∙ ap (entry_says c.args.image.now c.in_ok-t.t) (sym (rank_of_word_lem c.args.x))
    ∙ look-entry c.args.image.now c.args.x c.in_ok-t.t (sym (row_by_ones c.args.image.now c.args.x c.count_ones.result c.count_ones.ensures) ∙ sym c.row.ensures ∙ ap answer_says c.in_ok-t.was)
    ∙ took c.args.x (looked c.args.image.now c.args.x) c.take.result _ c.take.ensures c.in_ok-take.was
