-- `deletion::delete` meets its contract: the record is taken. Assumes nothing.
use mathlib.Core.Path.{◌∙◌}
use Rattle.deletion.specs.Rules.{removed_says}
use Rattle.answers.proofs.Says.{passed_on}
use Rattle.taking.proofs.Accepted.{took}
use Rattle.deletion.proofs.delete.Goals as goal

pub returns-in_err-take : goal.returns-in_err-take
returns-in_err-take c =
    passed_on c.from_residual.result _ c.from_residual.ensures.1
    ∙ took c.args.x (removed_says c.args.x c.args.p) c.take.result _ c.take.ensures c.in_err-take.was

pub returns : goal.returns
returns c =
    c.without_symbol.ensures
    ∙ took c.args.x (removed_says c.args.x c.args.p) c.take.result _ c.take.ensures c.in_ok-take.was
