-- `monotone_walk::step` meets its contract: the current index is taken. Assumes nothing.
use Rattle.std.specs.Result.{result_ok}
use mathlib.Core.Path.{sym, ap, ◌∙◌}
use Rattle.answers.proofs.Says.{passed_on}
use Rattle.monotone_walk.specs.Walks.{step_from}
use Rattle.monotone_walk.proofs.Passing.{step_nowhere, step_refused, step_last, step_on}
use Rattle.taking.proofs.Accepted.{verdict_accepted}
use Rattle.monotone_walk.proofs.step.Goals as goal

pub returns-in_err-x : goal.returns-in_err-x
returns-in_err-x c =
    passed_on c.from_residual.result _ c.from_residual.ensures.1 ∙ step_nowhere c.args.w.current c.args.w.remaining c.ok_or.result _ c.ok_or.ensures.value c.in_err-x.was

pub returns-in_err-take : goal.returns-in_err-take
returns-in_err-take c =
    passed_on c.from_residual-in_err-take.result _ c.from_residual-in_err-take.ensures.1
    ∙ step_refused c.in_ok-x.x c.args.w.remaining c.take.result _ c.take.ensures c.in_err-take.was
    ∙ sym (ap (λ z. step_from z c.args.w.remaining) (c.ok_or.ensures.ok_part ∙ ap result_ok c.in_ok-x.was))

pub returns-then-remaining-eq0 : goal.returns-then-remaining-eq0
returns-then-remaining-eq0 c =
    step_last c.in_ok-x.x c.args.w.remaining c.take.result _ c.take.ensures c.in_ok-take.was c.if-remaining-eq0.true
    ∙ sym (ap (λ z. step_from z c.args.w.remaining) (c.ok_or.ensures.ok_part ∙ ap result_ok c.in_ok-x.was))

pub next_of-requires : goal.next_of-requires
next_of-requires c =
    verdict_accepted c.in_ok-x.x c.take.result _ c.take.ensures c.in_ok-take.was

pub returns : goal.returns
returns c =
    step_on c.in_ok-x.x c.args.w.remaining c.take.result _ c.next_of.result c.ok.result c.take.ensures c.in_ok-take.was c.if-remaining-eq0.false c.next_of.ensures c.ok.ensures.value
    ∙ sym (ap (λ z. step_from z c.args.w.remaining) (c.ok_or.ensures.ok_part ∙ ap result_ok c.in_ok-x.was))
