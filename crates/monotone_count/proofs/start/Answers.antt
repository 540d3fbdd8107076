-- `monotone_count::start` meets its contract: a refusal of the count is passed on. Assumes nothing.
use Rattle.std.specs.Prelude.{Some, None}
use mathlib.Core.Path.{◌≡◌, sym, ap, ◌∙◌}
use borrow.Author.Tests.{eq-eqb, ne_eqb}
use lib.Dec.{eqb}
use Rattle.words.specs.Pick.{pick}
use Rattle.words.specs.Word.{shifted}
use Rattle.words.specs.Next.{first}
use Rattle.words.specs.Bits.{bits_of}
use Rattle.answers.specs.Says.{gives, and_then, answer_says}
use Rattle.answers.specs.Terms.{index_of}
use Rattle.answers.proofs.Says.{passed_on}
use Rattle.monotone_count.proofs.Rules.{count_given, start-bits}
use Rattle.monotone_count.proofs.start.Goals as goal

pub returns-in_err-remaining : goal.returns-in_err-remaining
returns-in_err-remaining c =
    passed_on c.from_residual.result _ c.from_residual.ensures.1
    ∙ sym (ap (λ s. and_then s (λ d. gives (record { current = pick (eqb d 0) None (Some (index_of c.args.family c.args.n (first c.args.family c.args.k))); remaining = d }))) (sym c.count.ensures ∙ ap answer_says c.in_err-remaining.was))

pub returns-then-remaining-eq0 : goal.returns-then-remaining-eq0
returns-then-remaining-eq0 c =
    simp (sym c.count.ensures, c.in_ok-remaining.was, eq-eqb _ _ c.if-remaining-eq0.true)

pub returns : goal.returns
returns c =
    let d = count_given c.args.family c.args.n c.args.k _ (sym c.count.ensures ∙ ap answer_says c.in_ok-remaining.was) in
    let b : c.low_mask-bits.result ≡ bits_of (shifted c.args.family (first c.args.family c.args.k)) =
    start-bits c.args.family c.args.k c.low_mask-bits.result d.degree c.low_mask-bits.ensures.number in
    simp (sym c.count.ensures, c.in_ok-remaining.was, ne_eqb _ _ c.if-remaining-eq0.false, b)
