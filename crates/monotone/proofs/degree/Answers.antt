-- `monotone::degree` meets its contract: the record is taken. Assumes nothing.
use mathlib.Core.Path.{sym, ap, ◌∙◌}
use lib.ListN.{length}
use Rattle.answers.specs.Says.{gives}
use Rattle.answers.specs.Terms.{word_of}
use Rattle.answers.proofs.Says.{passed_on}
use Rattle.answers.proofs.Terms.{word_long}
use Rattle.taking.proofs.Accepted.{took}
use Rattle.monotone.proofs.degree.Goals as goal

pub returns-in_err-take : goal.returns-in_err-take
returns-in_err-take c =
    passed_on c.from_residual.result _ c.from_residual.ensures.1 ∙ took c.args.x (gives (length (word_of c.args.x))) c.take.result _ c.take.ensures c.in_err-take.was

pub returns : goal.returns
returns c =
    ap gives (c.count_ones.ensures ∙ sym (word_long c.args.x))
    ∙ took c.args.x (gives (length (word_of c.args.x))) c.take.result _ c.take.ensures c.in_ok-take.was
