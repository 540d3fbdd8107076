-- `monotone_unrank::unrank` meets its contract: a refusal of the index is passed on, and the index is unpacked. Assumes nothing.
use mathlib.Core.Path.{sym, ap, ◌∙◌}
use lib.ListN.{length}
use Rattle.answers.specs.Says.{and_then, places_of, after, answer_says}
use Rattle.answers.proofs.Says.{passed_on}
use Rattle.monotone.specs.Rules.{unpack_says}
use Rattle.monotone_unrank.proofs.Passing.{unrank_by_index}
use Rattle.monotone_unrank.proofs.unrank.Goals as goal

pub returns-in_err-x : goal.returns-in_err-x
returns-in_err-x c =
    let u = unrank_by_index c.args.family c.args.n c.args.k c.args.r (length c.args.out.now) ∙ ap (λ s. and_then s (λ x. unpack_says x (length c.args.out.now))) (sym c.unrank_over.ensures ∙ ap answer_says c.in_err-x.was) in
    record { says = passed_on c.from_residual.result _ c.from_residual.ensures.1 ∙ sym (ap places_of u); holds = sym (ap (λ s. after s c.args.out.now) u) }

pub returns : goal.returns
returns c =
    let u = unrank_by_index c.args.family c.args.n c.args.k c.args.r (length c.args.out.now) ∙ ap (λ s. and_then s (λ x. unpack_says x (length c.args.out.now))) (sym c.unrank_over.ensures ∙ ap answer_says c.in_ok-x.was) in
    record { says = c.unpack.ensures.says ∙ sym (ap places_of u); holds = c.unpack.ensures.holds ∙ sym (ap (λ s. after s c.args.out.now) u) }
