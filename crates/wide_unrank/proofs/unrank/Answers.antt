-- `wide_unrank::unrank` meets its contract: a refusal of the index is passed on, and its word is written. Assumes nothing.
use mathlib.Core.Path.{sym, ap, ◌∙◌}
use native.Mathlib.Omega.{arith}
use lib.ListN.{length}
use Rattle.answers.specs.Says.{gives, and_then, places_of, after, answer_says}
use Rattle.answers.proofs.Says.{passed_on}
use Rattle.wide_unrank.proofs.Passing.{wide_spell_says, wide_unrank_by_index, unpacks}
use Rattle.wide_unrank.proofs.unrank.Goals as goal

pub returns-in_err-x : goal.returns-in_err-x
returns-in_err-x c =
    let u = wide_unrank_by_index c.args.family c.args.n c.args.k c.args.r (length c.args.out.now) ∙ ap (λ s. and_then s (λ x. wide_spell_says c.args.family x (length c.args.out.now))) (sym c.unrank_over.ensures ∙ ap answer_says c.in_err-x.was) in
    record { says = passed_on c.from_residual.result _ c.from_residual.ensures.1 ∙ sym (ap places_of u); holds = sym (ap (λ s. after s c.args.out.now) u) }

pub returns-then-out-k : goal.returns-then-out-k
returns-then-out-k c =
    let t = unpacks c.args.family c.args.n c.args.k c.args.r _ (sym c.unrank_over.ensures ∙ ap answer_says c.in_ok-x.was) in
    let u = t.short (length c.args.out.now) c.if-out-k.true in
    record { says = sym (ap places_of u); holds = sym (ap (λ s. after s c.args.out.now) u) }

pub spell-requires : goal.spell-requires
spell-requires c =
    let t = unpacks c.args.family c.args.n c.args.k c.args.r _ (sym c.unrank_over.ensures ∙ ap answer_says c.in_ok-x.was) in
    omega (arith, t.size, c.if-out-k.false)

pub returns : goal.returns
returns c =
    let t = unpacks c.args.family c.args.n c.args.k c.args.r _ (sym c.unrank_over.ensures ∙ ap answer_says c.in_ok-x.was) in
    let u = t.enough (length c.args.out.now) c.if-out-k.false in
    record { says = ap gives (sym t.long) ∙ sym (ap places_of u); holds = c.spell.ensures ∙ sym (ap (λ s. after s c.args.out.now) u) }
