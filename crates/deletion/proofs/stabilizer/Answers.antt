-- `deletion::stabilizer` meets its contract: the record is taken. Assumes nothing.
use mathlib.Core.Path.{◌∙◌}
use Rattle.answers.specs.Terms.{word_of}
use Rattle.deletion.specs.Rules.{product_says}
use Rattle.answers.proofs.Says.{passed_on}
use Rattle.taking.proofs.Accepted.{took}
use Rattle.deletion.proofs.stabilizer.Goals as goal

pub returns-in_err-take : goal.returns-in_err-take
returns-in_err-take c =
    passed_on c.from_residual.result _ c.from_residual.ensures.1
    ∙ took c.args.x (product_says (word_of c.args.x)) c.take.result _ c.take.ensures c.in_err-take.was

pub returns : goal.returns
returns c =
    c.product.ensures
    ∙ took c.args.x (product_says (word_of c.args.x)) c.take.result _ c.take.ensures c.in_ok-take.was
