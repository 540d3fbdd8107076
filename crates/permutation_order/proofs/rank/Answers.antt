-- `permutation_order::rank` meets its contract: the refusal of the check is passed on, and the weight is the rank. Assumes nothing.
use mathlib.Core.Path.{sym, ◌∙◌}
use borrow.Author.Rules.{rules}
use Rattle.answers.proofs.Says.{passed_on}
use Rattle.permutation_order.proofs.Numbering.{ordered-numbered, numbered-refuses, numbered-gives}
use Rattle.permutation_order.proofs.rank.Goals as goal

pub returns-in_err-numbered : goal.returns-in_err-numbered
returns-in_err-numbered c =
    passed_on c.from_residual.result _ c.from_residual.ensures.1
    ∙ sym (simp (numbered-refuses c.args.p _ c.numbered.ensures _ c.in_err-numbered.was))

pub weight-requires : goal.weight-requires
weight-requires c =
    let h = numbered-gives c.args.p _ c.numbered.ensures _ c.in_ok-numbered.was (search rules) in
    (h.holds, h.few)

pub returns : goal.returns
returns c =
    let h = numbered-gives c.args.p _ c.numbered.ensures _ c.in_ok-numbered.was (search rules) in
    simp (ordered-numbered c.args.p h, c.weight.ensures)
