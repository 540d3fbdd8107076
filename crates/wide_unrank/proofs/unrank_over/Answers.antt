-- `wide_unrank::unrank_over` meets its contract. Assumes nothing.
use mathlib.Core.Path.{sym, ap, ◌∙◌}
use native.Mathlib.Omega.{arith}
use lib.Dec.{leb}
use Rattle.words.specs.Word.{shifted}
use Rattle.words.specs.Unrank.{unrank_of}
use Rattle.words.specs.Bits.{bits_of}
use Rattle.answers.specs.Says.{gives, refused_if, and_then, answer_says}
use Rattle.answers.proofs.Says.{passed_on}
use Rattle.wide.specs.Rules.{as_wide}
use Rattle.wide.proofs.Terms.{wide_of_whole}
use Rattle.wide.proofs.Unranking.{ready, unranked, none_such}
use Prim.Native.Nat.{ℕ}
use Rattle.pascal.specs.Choose.{choose}
use borrow.Author.Rules.{rules}
use Rattle.wide_unrank.proofs.unrank_over.Goals as goal

pub returns-in_err-c : goal.returns-in_err-c
returns-in_err-c c =
    passed_on c.from_residual.result _ c.from_residual.ensures.1
    ∙ sym (ap (λ s. as_wide c.args.family (and_then s (λ d. refused_if (leb d c.args.r) 3 (gives (bits_of (shifted c.args.family (unrank_of c.args.family c.args.k c.args.r))))))) (sym c.count.ensures ∙ ap answer_says c.in_err-c.was))

pub returns-then-c-r : goal.returns-then-c-r
returns-then-c-r c = sym (none_such c.args.family c.args.n c.args.k _ c.args.r (sym c.count.ensures ∙ ap answer_says c.in_ok-c.was) c.if-c-r.true)

pub shifted_alphabet-alphabet-requires : goal.shifted_alphabet-alphabet-requires
shifted_alphabet-alphabet-requires c = let o = ready c.args.family c.args.n c.args.k _ c.args.r (sym c.count.ensures ∙ ap answer_says c.in_ok-c.was) c.if-c-r.false in (o.symbols, o.degree)

pub word-set-requires : goal.word-set-requires
word-set-requires c =
    let o = ready c.args.family c.args.n c.args.k _ c.args.r (sym c.count.ensures ∙ ap answer_says c.in_ok-c.was) c.if-c-r.false in
    let e = ap (λ (s : ℕ). choose s c.args.k) c.shifted_alphabet-alphabet.ensures in
    (omega (arith, o.alphabet), omega (arith, o.fits, e), omega (arith, o.held, e))

pub returns : goal.returns
returns c =
    let o = ready c.args.family c.args.n c.args.k _ c.args.r (sym c.count.ensures ∙ ap answer_says c.in_ok-c.was) c.if-c-r.false in
    ap gives (wide_of_whole c.args.family _ _ _ (search rules) (c.word-set.ensures ∙ o.bits))
    ∙ sym (unranked c.args.family c.args.n c.args.k _ c.args.r (sym c.count.ensures ∙ ap answer_says c.in_ok-c.was) c.if-c-r.false)
