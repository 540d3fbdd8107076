-- `lexical::successor` meets its contract: a refusal of packing is passed on, and each later return is by the position of the raised symbol. Assumes nothing.
use mathlib.Core.Path.{sym, ap, ◌∙◌}
use native.Mathlib.Omega.{arith}
use lib.ListN.{length}
use Rattle.answers.specs.Says.{gives, and_then, places_of, after, answer_says}
use Rattle.answers.proofs.Says.{passed_on}
use Rattle.raising.proofs.Raises.{raised_long}
use Rattle.lexical.proofs.Given.{packed, next_by_pack, following, last_says, short_says, next_says_lem, can_write}
use Rattle.lexical.proofs.successor.Goals as goal

pub returns-in_err-pack : goal.returns-in_err-pack
returns-in_err-pack c =
    let u = next_by_pack c.args.family c.args.n c.args.word.now (length c.args.out.now) ∙ ap (λ s. and_then s (λ x. following c.args.family c.args.n c.args.word.now (length c.args.out.now))) (sym c.pack.ensures ∙ ap answer_says c.in_err-pack.was) in
    record { says = passed_on c.from_residual.result _ c.from_residual.ensures.1 ∙ sym (ap places_of u); holds = sym (ap (λ s. after s c.args.out.now) u) }

pub returns-then-r-eq0 : goal.returns-then-r-eq0
returns-then-r-eq0 c =
    let u = next_by_pack c.args.family c.args.n c.args.word.now (length c.args.out.now) ∙ ap (λ s. and_then s (λ x. following c.args.family c.args.n c.args.word.now (length c.args.out.now))) (sym c.pack.ensures ∙ ap answer_says c.in_ok-pack.was) ∙ last_says c.args.family c.args.n c.args.word.now (length c.args.out.now) c.raisable-r.result c.raisable-r.ensures c.if-r-eq0.true in
    record { says = sym (ap places_of u); holds = sym (ap (λ s. after s c.args.out.now) u) }

pub returns-then-out-word : goal.returns-then-out-word
returns-then-out-word c =
    let u = next_by_pack c.args.family c.args.n c.args.word.now (length c.args.out.now) ∙ ap (λ s. and_then s (λ x. following c.args.family c.args.n c.args.word.now (length c.args.out.now))) (sym c.pack.ensures ∙ ap answer_says c.in_ok-pack.was) ∙ short_says c.args.family c.args.n c.args.word.now (length c.args.out.now) c.raisable-r.result c.raisable-r.ensures (omega (arith, c.if-r-eq0.false)) c.if-out-word.true in
    record { says = sym (ap places_of u); holds = sym (ap (λ s. after s c.args.out.now) u) }

pub write_next-requires : goal.write_next-requires
write_next-requires c = (
  can_write c.args.family c.args.n c.args.word.now c.raisable-r.result (packed c.args.family c.args.n c.args.word.now _ (sym c.pack.ensures ∙ ap answer_says c.in_ok-pack.was)).0 c.raisable-r.ensures (omega (arith, c.if-r-eq0.false)),
  c.if-out-word.false,
)

pub returns : goal.returns
returns c =
    let u = next_by_pack c.args.family c.args.n c.args.word.now (length c.args.out.now) ∙ ap (λ s. and_then s (λ x. following c.args.family c.args.n c.args.word.now (length c.args.out.now))) (sym c.pack.ensures ∙ ap answer_says c.in_ok-pack.was) ∙ next_says_lem c.args.family c.args.n c.args.word.now (length c.args.out.now) c.raisable-r.result c.raisable-r.ensures (omega (arith, c.if-r-eq0.false)) c.if-out-word.false in
    let l = raised_long c.args.family c.args.word.now c.raisable-r.result (omega (arith, c.if-r-eq0.false)) c.raisable-r.ensures.within in
    record { says = ap gives (sym l) ∙ sym (ap places_of u); holds = c.write_next.ensures ∙ sym (ap (λ s. after s c.args.out.now) u) }
