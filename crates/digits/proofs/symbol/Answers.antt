-- `digits::symbol` meets its contract: the stride of a position of a known word is never refused. Assumes nothing.
use Rattle.digits.proofs.Rules.{known, given_passed, given_refused, radix_some, stride_is, stride_some, stride-refused}
use mathlib.Core.Path.{sym, ap, ◌∙◌}
use borrow.Author.Tests.{le-leb, lt-leb}
use lib.Dec.{leb}
use lib.ListN.{get_or}
use Rattle.answers.specs.Says.{gives, refused_if, answer_says}
use Rattle.answers.proofs.Says.{passed_on}
use Rattle.digits.specs.Rules.{symbols_of}
use Rattle.digits.proofs.Positions.{symbol_at}
use Rattle.digits.proofs.symbol.Goals as goal

pub returns-in_err-check : goal.returns-in_err-check
returns-in_err-check c = passed_on c.from_residual.result _ c.from_residual.ensures.1 ∙ sym (given_refused c.args.x _ _ (refused_if (leb c.args.x.degree c.args.p) 7 (gives (get_or (symbols_of c.args.x) c.args.p 0))) (sym (ap answer_says c.in_err-check.was) ∙ c.check.ensures))

pub returns-then-degree-p : goal.returns-then-degree-p
returns-then-degree-p c = sym (given_passed c.args.x _ (refused_if (leb c.args.x.degree c.args.p) 7 (gives (get_or (symbols_of c.args.x) c.args.p 0))) (sym (ap answer_says c.in_ok-check.was) ∙ c.check.ensures) ∙ simp (le-leb _ _ c.if-degree-p.true))

pub returns-in_err-stride : goal.returns-in_err-stride
returns-in_err-stride c = stride-refused c.args.x _ c.args.p _ _ (known c.args.x _ (sym (ap answer_says c.in_ok-check.was) ∙ c.check.ensures)) c.if-degree-p.false (sym (ap answer_says c.in_err-stride.was) ∙ c.power.ensures)

pub nonzero_div-result : goal.nonzero_div-result
nonzero_div-result c = stride_some c.args.x _ c.args.p _ (known c.args.x _ (sym (ap answer_says c.in_ok-check.was) ∙ c.check.ensures)) c.if-degree-p.false (sym (ap answer_says c.in_ok-stride.was) ∙ c.power.ensures)

pub nonzero_rem-result : goal.nonzero_rem-result
nonzero_rem-result c = radix_some c.args.x _ c.args.p (known c.args.x _ (sym (ap answer_says c.in_ok-check.was) ∙ c.check.ensures)) c.if-degree-p.false

pub returns : goal.returns
returns c =
    let k = known c.args.x _ (sym (ap answer_says c.in_ok-check.was) ∙ c.check.ensures) in
    let s = stride_is c.args.x _ c.args.p _ k c.if-degree-p.false (sym (ap answer_says c.in_ok-stride.was) ∙ c.power.ensures) in
    ap gives (symbol_at c.args.x.radix c.args.x.degree c.args.x.rank c.args.p _ c.if-degree-p.false s)
    ∙ sym (given_passed c.args.x _ (refused_if (leb c.args.x.degree c.args.p) 7 (gives (get_or (symbols_of c.args.x) c.args.p 0))) (sym (ap answer_says c.in_ok-check.was) ∙ c.check.ensures) ∙ simp (lt-leb _ _ c.if-degree-p.false))
