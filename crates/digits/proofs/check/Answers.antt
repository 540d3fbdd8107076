-- `digits::check` meets its contract: a refusal of the count is passed on. Assumes nothing.
use mathlib.Core.Path.{sym, ap, ◌∙◌}
use Rattle.answers.specs.Says.{answer_says}
use Rattle.answers.proofs.Says.{passed_on}
use Rattle.digits.proofs.Rules.{checked_refused, checked_none, checked_is}
use Rattle.digits.proofs.check.Goals as goal

pub returns-in_err-c : goal.returns-in_err-c
returns-in_err-c c =
    passed_on c.from_residual.result _ c.from_residual.ensures.1
    ∙ checked_refused c.args.x _ _ (sym (ap answer_says c.in_err-c.was) ∙ c.count.ensures)

pub returns-then-c-rank : goal.returns-then-c-rank
returns-then-c-rank c = checked_none c.args.x _ (sym (ap answer_says c.in_ok-c.was) ∙ c.count.ensures) c.if-c-rank.true

pub returns : goal.returns
returns c = checked_is c.args.x _ (sym (ap answer_says c.in_ok-c.was) ∙ c.count.ensures) c.if-c-rank.false
