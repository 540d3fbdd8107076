-- `conversion::convert` meets its contract: a refusal of the count is passed on, and each later return is by the checks that led there. Assumes nothing.
use Rattle.std.proofs.Common.{length, sym, ap, ◌∙◌}
use Rattle.answers.specs.Says.{gives, answer_says, places_of, after}
use Rattle.answers.proofs.Says.{passed_on}
use Rattle.conversion.proofs.Copying.{all_written}
use Rattle.conversion.proofs.Writing.{exact, converted_long, count-refused, given_refused, lent-refused, convert_gives}
use Rattle.conversion.proofs.convert.Goals as goal

pub returns-in_err-c : goal.returns-in_err-c
returns-in_err-c c =
    let u = count-refused c.args.back c.args.family c.args.n c.args.k c.args.from.now (length c.args.out.now) _ _ (sym c.count.ensures ∙ ap answer_says c.in_err-c.was) in
    record { says = passed_on c.from_residual.result _ c.from_residual.ensures.1 ∙ sym (ap places_of u); holds = sym (ap (λ s. after s c.args.out.now) u) }

pub returns-then-not-has_entries : goal.returns-then-not-has_entries
returns-then-not-has_entries c =
    let u = given_refused c.args.back c.args.family c.args.n c.args.k c.args.from.now (length c.args.out.now) _ (sym c.count.ensures ∙ ap answer_says c.in_ok-c.was) (sym c.has_entries.ensures ∙ c.if-not-has_entries.true) in
    record { says = sym (ap places_of u); holds = sym (ap (λ s. after s c.args.out.now) u) }

pub returns-then-not-has_entries-2 : goal.returns-then-not-has_entries-2
returns-then-not-has_entries-2 c =
    let u = lent-refused c.args.back c.args.family c.args.n c.args.k c.args.from.now (length c.args.out.now) _ (sym c.count.ensures ∙ ap answer_says c.in_ok-c.was) (sym c.has_entries.ensures ∙ c.if-not-has_entries.false) (sym c.has_entries-2.ensures ∙ c.if-not-has_entries-2.true) in
    record { says = sym (ap places_of u); holds = sym (ap (λ s. after s c.args.out.now) u) }

pub write-requires : goal.write-requires
write-requires c =
    exact c.args.family c.args.n c.args.k _ c.args.from.now c.args.out.now (sym c.count.ensures ∙ ap answer_says c.in_ok-c.was) (sym c.has_entries.ensures ∙ c.if-not-has_entries.false) (sym c.has_entries-2.ensures ∙ c.if-not-has_entries-2.false)

pub returns : goal.returns
returns c =
    let u = convert_gives c.args.back c.args.family c.args.n c.args.k c.args.from.now (length c.args.out.now) _ (sym c.count.ensures ∙ ap answer_says c.in_ok-c.was) (sym c.has_entries.ensures ∙ c.if-not-has_entries.false) (sym c.has_entries-2.ensures ∙ c.if-not-has_entries-2.false) in
    let l = converted_long c.args.back c.args.family c.args.n c.args.k _ c.args.from.now c.args.out.now (exact c.args.family c.args.n c.args.k _ c.args.from.now c.args.out.now (sym c.count.ensures ∙ ap answer_says c.in_ok-c.was) (sym c.has_entries.ensures ∙ c.if-not-has_entries.false) (sym c.has_entries-2.ensures ∙ c.if-not-has_entries-2.false)) in
    record { says = ap (λ v. gives (length v)) c.write.ensures ∙ sym (ap places_of u); holds = c.write.ensures ∙ all_written _ c.args.out.now l ∙ sym (ap (λ s. after s c.args.out.now) u) }
