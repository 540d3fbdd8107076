-- `digits::symbols` meets its contract: a refusal of the checks is passed on. Assumes nothing.
use Rattle.digits.proofs.Rules.{given_refused, symbols_short, symbols_given}
use mathlib.Core.Path.{sym, ap, ◌∙◌}
use lib.Dec.{ltb}
use lib.ListN.{length}
use Rattle.answers.specs.Says.{gives, refused_if, answer_says, places_of, after}
use Rattle.answers.proofs.Says.{passed_on}
use Rattle.digits.specs.Rules.{symbols_of}
use Rattle.digits.proofs.Positions.{symbols_long}
use Rattle.digits.proofs.symbols.Goals as goal

pub returns-in_err-check : goal.returns-in_err-check
returns-in_err-check c =
    let u = given_refused c.args.x _ _ (refused_if (ltb (length c.args.out.now) c.args.x.degree) 8 (gives (symbols_of c.args.x))) (sym (ap answer_says c.in_err-check.was) ∙ c.check.ensures) in
    record { says = passed_on c.from_residual.result _ c.from_residual.ensures.1 ∙ sym (ap places_of u); holds = sym (ap (λ s. after s c.args.out.now) u) }

pub returns-then-out-degree : goal.returns-then-out-degree
returns-then-out-degree c =
    let u = symbols_short c.args.x _ (length c.args.out.now) (sym (ap answer_says c.in_ok-check.was) ∙ c.check.ensures) c.if-out-degree.true in
    record { says = sym (ap places_of u); holds = sym (ap (λ s. after s c.args.out.now) u) }

pub returns : goal.returns
returns c =
    let u = symbols_given c.args.x _ (length c.args.out.now) (sym (ap answer_says c.in_ok-check.was) ∙ c.check.ensures) c.if-out-degree.false in
    record { says = ap gives (sym (symbols_long c.args.x.radix c.args.x.degree c.args.x.rank)) ∙ sym (ap places_of u); holds = c.write_symbols.ensures ∙ sym (ap (λ s. after s c.args.out.now) u) }
