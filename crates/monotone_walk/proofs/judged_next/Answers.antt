-- `monotone_walk::judged_next` meets its contract: the record is taken. Assumes nothing.
use mathlib.Core.Path.{◌∙◌}
use Rattle.answers.proofs.Says.{passed_on}
use Rattle.monotone_walk.specs.Rules.{next_says}
use Rattle.taking.proofs.Accepted.{took, verdict_accepted}
use Rattle.monotone_walk.proofs.judged_next.Goals as goal

pub returns-in_err-take : goal.returns-in_err-take
returns-in_err-take c =
    passed_on c.from_residual.result _ c.from_residual.ensures.1 ∙ took c.args.x (next_says c.args.x) c.take.result _ c.take.ensures c.in_err-take.was

pub next_of-requires : goal.next_of-requires
next_of-requires c =
    verdict_accepted c.args.x c.take.result _ c.take.ensures c.in_ok-take.was

pub returns : goal.returns
returns c =
    c.next_of.ensures ∙ took c.args.x (next_says c.args.x) c.take.result _ c.take.ensures c.in_ok-take.was
