-- `digits_algebra::delete` meets its contract: a refusal of the checks is passed on, and the gap is closed by the laws of `Joining`. Assumes nothing.
use mathlib.Core.Path.{sym, ap, ◌∙◌}
use borrow.Author.Tests.{le-leb}
use Rattle.answers.specs.Says.{answer_says}
use Rattle.answers.proofs.Says.{passed_on}
use Rattle.digits_algebra.specs.Rules.{take_says}
use Rattle.digits.proofs.Rules.{known, given_passed, given_refused, radix_some, stride_is, stride_some, stride-refused}
use Rattle.digits_algebra.proofs.Joining.{taken_given}
use Rattle.digits_algebra.proofs.delete.Goals as goal

pub returns-in_err-check : goal.returns-in_err-check
returns-in_err-check c =
    passed_on c.from_residual.result _ c.from_residual.ensures.1
    ∙ sym (given_refused c.args.x _ _ (take_says c.args.x c.args.p) (sym (ap answer_says c.in_err-check.was) ∙ c.check.ensures))

pub returns-then-x-p : goal.returns-then-x-p
returns-then-x-p c =
    sym (given_passed c.args.x _ (take_says c.args.x c.args.p) (sym (ap answer_says c.in_ok-check.was) ∙ c.check.ensures) ∙ simp (le-leb _ _ c.if-x-p.true))

pub returns-in_err-stride : goal.returns-in_err-stride
returns-in_err-stride c =
    stride-refused c.args.x _ c.args.p _ _ (known c.args.x _ (sym (ap answer_says c.in_ok-check.was) ∙ c.check.ensures)) c.if-x-p.false (sym (ap answer_says c.in_err-stride.was) ∙ c.power.ensures)

pub nonzero_div-symbol : goal.nonzero_div-symbol
nonzero_div-symbol c =
    stride_some c.args.x _ c.args.p _ (known c.args.x _ (sym (ap answer_says c.in_ok-check.was) ∙ c.check.ensures)) c.if-x-p.false (sym (ap answer_says c.in_ok-stride.was) ∙ c.power.ensures)

pub nonzero_rem-symbol : goal.nonzero_rem-symbol
nonzero_rem-symbol c =
    radix_some c.args.x _ c.args.p (known c.args.x _ (sym (ap answer_says c.in_ok-check.was) ∙ c.check.ensures)) c.if-x-p.false

pub nonzero_rem-rank : goal.nonzero_rem-rank
nonzero_rem-rank c =
    stride_some c.args.x _ c.args.p _ (known c.args.x _ (sym (ap answer_says c.in_ok-check.was) ∙ c.check.ensures)) c.if-x-p.false (sym (ap answer_says c.in_ok-stride.was) ∙ c.power.ensures)

pub nonzero_div-rank : goal.nonzero_div-rank
nonzero_div-rank c =
    stride_some c.args.x _ c.args.p _ (known c.args.x _ (sym (ap answer_says c.in_ok-check.was) ∙ c.check.ensures)) c.if-x-p.false (sym (ap answer_says c.in_ok-stride.was) ∙ c.power.ensures)

pub nonzero_div-rank-2 : goal.nonzero_div-rank-2
nonzero_div-rank-2 c =
    radix_some c.args.x _ c.args.p (known c.args.x _ (sym (ap answer_says c.in_ok-check.was) ∙ c.check.ensures)) c.if-x-p.false

pub returns : goal.returns
returns c =
    let e = sym (ap answer_says c.in_ok-check.was) ∙ c.check.ensures in
    let k = known c.args.x _ e in
    let s = stride_is c.args.x _ c.args.p _ k c.if-x-p.false (sym (ap answer_says c.in_ok-stride.was) ∙ c.power.ensures) in
    taken_given c.args.x _ c.args.p c.in_ok-stride.stride e k.low c.if-x-p.false s
