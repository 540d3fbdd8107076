-- `monotone_unrank::unrank_over` meets its contract: a refusal of the count is passed on. Assumes nothing.
use mathlib.Core.Path.{sym, ap, subst, ◌∙◌}
use Prim.Native.Nat.{ℕ, ◌≤◌, ◌<◌}
use native.Mathlib.Omega.{arith}
use borrow.Author.Tests.{le-leb, lt-leb}
use lib.Dec.{leb}
use Rattle.pascal.specs.Row.{entry}
use Rattle.words.specs.Unrank.{unrank_of}
use Rattle.answers.specs.Says.{gives, refused_if, and_then, answer_says}
use Rattle.answers.specs.Terms.{index_of}
use Rattle.answers.proofs.Says.{passed_on}
use Rattle.monotone_unrank.proofs.Passing.{unrank_bits}
use Rattle.monotone_unrank.proofs.unrank_over.Goals as goal

pub returns-in_err-c : goal.returns-in_err-c
returns-in_err-c c =
    passed_on c.from_residual.result _ c.from_residual.ensures.1
    ∙ sym (ap (λ s. and_then s (λ d. refused_if (leb d c.args.r) 3 (gives (index_of c.args.family c.args.n (unrank_of c.args.family c.args.k c.args.r))))) (sym c.count.ensures ∙ ap answer_says c.in_err-c.was))

pub returns-then-c-r : goal.returns-then-c-r
returns-then-c-r c =
    simp (sym c.count.ensures, c.in_ok-c.was, le-leb _ _ c.if-c-r.true)

pub shifted_alphabet-requires : goal.shifted_alphabet-requires
shifted_alphabet-requires c =
    let w = (unrank_bits c.args.family c.args.n c.args.k _ c.args.r (sym (ap answer_says c.in_ok-c.was) ∙ c.count.ensures) c.if-c-r.false).narrow in
    (w.0, omega (arith, w.1))

pub word-bits-requires : goal.word-bits-requires
word-bits-requires c =
    subst (λ (s : ℕ). (s ≤ 64) × (c.args.r < entry s c.args.k)) (sym c.shifted_alphabet.ensures) (unrank_bits c.args.family c.args.n c.args.k _ c.args.r (sym (ap answer_says c.in_ok-c.was) ∙ c.count.ensures) c.if-c-r.false).fits

pub returns : goal.returns
returns c =
    simp (sym c.count.ensures, c.in_ok-c.was, lt-leb _ _ c.if-c-r.false, c.word-bits.ensures ∙ (unrank_bits c.args.family c.args.n c.args.k _ c.args.r (sym (ap answer_says c.in_ok-c.was) ∙ c.count.ensures) c.if-c-r.false).bits)
