-- `composition_rank::from_rank` meets its contract: a refusal of unranking is passed on, and the symbols of the word are counted. Assumes nothing.
use Rattle.words.specs.declared.Family.TheVariants.{Allowed}
use Rattle.words.specs.Unrank.{unrank_of}
use Rattle.composition.specs.Exponents.{tally}
use Rattle.composition_rank.specs.Rules.{from_rank_says}
use Rattle.composition.proofs.Tallying.{tally_long}
use mathlib.Core.Path.{◌≡◌, refl, sym, ap, ◌∙◌}
use borrow.Author.Tests.{lt-ltb, le-ltb}
use lib.ListN.{length}
use Rattle.answers.specs.Says.{gives, refuses_with, answer_says, places_of, after}
use Rattle.answers.proofs.Says.{passed_on}
use Rattle.composition_rank.proofs.Passing.{Found, found, from_rank_refused}
use Rattle.composition_rank.proofs.from_rank.Goals as goal

pub returns-in_err-d : goal.returns-in_err-d
returns-in_err-d c =
    let u : from_rank_says c.args.n c.args.k c.args.r (length c.args.out.now) ≡ refuses_with _ _ = from_rank_refused c.args.n c.args.k c.args.r (length c.args.out.now) _ _ (sym (ap answer_says c.in_err-d.was) ∙ c.unrank.ensures.says) in
    record { says = passed_on c.from_residual.result _ c.from_residual.ensures.1 ∙ sym (ap places_of u); holds = sym (ap (λ s. after s c.args.out.now) u) }

pub returns-then-out-n : goal.returns-then-out-n
returns-then-out-n c =
    let f : Found c.args.n c.args.k c.args.r _ _ = found c.args.n c.args.k c.args.r _ _ _ (sym (ap answer_says c.in_ok-d.was) ∙ c.unrank.ensures.says) c.unrank.ensures.holds in
    simp (f.fits, f.low, lt-ltb _ _ c.if-out-n.true) record { says = refl; holds = refl }

pub slice_bounds-tally-end : goal.slice_bounds-tally-end
slice_bounds-tally-end c = (found c.args.n c.args.k c.args.r _ _ _ (sym (ap answer_says c.in_ok-d.was) ∙ c.unrank.ensures.says) c.unrank.ensures.holds).within

pub tally-requires : goal.tally-requires
tally-requires c = (c.if-out-n.false, (found c.args.n c.args.k c.args.r _ _ _ (sym (ap answer_says c.in_ok-d.was) ∙ c.unrank.ensures.says) c.unrank.ensures.holds).below)

pub returns : goal.returns
returns c =
    let f : Found c.args.n c.args.k c.args.r _ _ = found c.args.n c.args.k c.args.r _ _ _ (sym (ap answer_says c.in_ok-d.was) ∙ c.unrank.ensures.says) c.unrank.ensures.holds in
    simp (f.fits, f.low, le-ltb _ _ c.if-out-n.false) record { says = ap gives (sym (tally_long c.args.n (unrank_of Allowed c.args.k c.args.r))); holds = c.tally.ensures ∙ ap (λ w. after (gives (tally c.args.n w)) c.args.out.now) f.word }
