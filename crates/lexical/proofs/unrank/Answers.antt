-- `lexical::unrank` meets its contract: a refusal of the count is passed on, and each later return is by the checks that led there. Assumes nothing.
use mathlib.Core.Path.{sym, ap, ◌∙◌}
use mathlib.Core.List.{List, ◌++◌}
use Prim.Native.Nat.{ℕ}
use native.Mathlib.Omega.{arith}
use lib.ListN.{length, drop}
use Rattle.words.specs.Bits.{set_bits}
use Rattle.words.proofs.Shifted.{unshifted_long}
use Rattle.answers.specs.Says.{gives, answer_says, places_of, after}
use Rattle.answers.proofs.Says.{passed_on}
use Rattle.monotone_count.proofs.Rules.{count_given}
use Rattle.lexicographic.proofs.Rank.{lex_unrank_is_a_word}
use Rattle.lexical.proofs.Given.{unrank_refused, unrank_none, unrank_short, unrank_gives}
use Rattle.lexical.proofs.unrank.Goals as goal

pub returns-in_err-c : goal.returns-in_err-c
returns-in_err-c c =
    let u = unrank_refused c.args.family c.args.n c.args.k c.args.r (length c.args.out.now) _ _ (sym c.count.ensures ∙ ap answer_says c.in_err-c.was) in
    record { says = passed_on c.from_residual.result _ c.from_residual.ensures.1 ∙ sym (ap places_of u); holds = sym (ap (λ s. after s c.args.out.now) u) }

pub returns-then-c-r : goal.returns-then-c-r
returns-then-c-r c =
    let u = unrank_none c.args.family c.args.n c.args.k c.args.r (length c.args.out.now) _ (sym c.count.ensures ∙ ap answer_says c.in_ok-c.was) c.if-c-r.true in
    record { says = sym (ap places_of u); holds = sym (ap (λ s. after s c.args.out.now) u) }

pub returns-then-out-k : goal.returns-then-out-k
returns-then-out-k c =
    let u = unrank_short c.args.family c.args.n c.args.k c.args.r (length c.args.out.now) _ (sym c.count.ensures ∙ ap answer_says c.in_ok-c.was) c.if-c-r.false c.if-out-k.true in
    record { says = sym (ap places_of u); holds = sym (ap (λ s. after s c.args.out.now) u) }

pub at_place-requires : goal.at_place-requires
at_place-requires c =
    let d = count_given c.args.family c.args.n c.args.k _ (sym c.count.ensures ∙ ap answer_says c.in_ok-c.was) in
    (d.degree, d.alphabet, omega (arith, d.is, c.if-c-r.false))

pub spell-requires : goal.spell-requires
spell-requires c =
    let d = count_given c.args.family c.args.n c.args.k _ (sym c.count.ensures ∙ ap answer_says c.in_ok-c.was) in
    omega (
      arith,
      unshifted_long c.args.family (set_bits c.at_place.result),
      ap length c.at_place.ensures,
      (lex_unrank_is_a_word c.args.family c.args.n c.args.k c.args.r (omega (arith, d.is, c.if-c-r.false))).long,
      c.if-out-k.false,
    )

pub returns : goal.returns
returns c =
    let e = sym c.count.ensures ∙ ap answer_says c.in_ok-c.was in
    let d = count_given c.args.family c.args.n c.args.k _ e in
    let u = unrank_gives c.args.family c.args.n c.args.k c.args.r (length c.args.out.now) _ e c.if-c-r.false c.if-out-k.false in record { says = ap gives (sym (lex_unrank_is_a_word c.args.family c.args.n c.args.k c.args.r (omega (arith, d.is, c.if-c-r.false))).long) ∙ sym (ap places_of u); holds = c.spell.ensures ∙ ap (λ (v : List ℕ). v ++ drop (length v) c.args.out.now) c.at_place.ensures ∙ sym (ap (λ s. after s c.args.out.now) u) }
