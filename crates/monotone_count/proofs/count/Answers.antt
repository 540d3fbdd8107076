-- `monotone_count::count` meets its contract. Assumes nothing.
use mathlib.Core.Path.{◌≡◌, sym, ap, ◌∙◌}
use native.Mathlib.Omega.{arith}
use borrow.Author.Tests.{lt-ltb, le-ltb, ltb-false}
use Rattle.words.specs.Word.{shifted_alphabet, count}
use Rattle.pascal.specs.Choose.{choose}
use Rattle.words.proofs.Word.{alphabet_least}
use Rattle.pascal.proofs.Row.{entry_is_choose}
use Rattle.monotone_count.proofs.count.Goals as goal

pub returns-then-k-gt64 : goal.returns-then-k-gt64
returns-then-k-gt64 c = simp (lt-ltb _ _ c.if-k-gt64.true)

pub returns-then-too_wide : goal.returns-then-too_wide
returns-then-too_wide c =
    simp (le-ltb _ _ c.if-k-gt64.false, sym c.too_wide.ensures ∙ c.if-too_wide.true)

pub shifted_alphabet-alphabet-requires : goal.shifted_alphabet-alphabet-requires
shifted_alphabet-alphabet-requires c =
    (omega (arith, alphabet_least c.args.family c.args.n c.args.k, ltb-false 64 (shifted_alphabet c.args.family c.args.n c.args.k) (sym c.too_wide.ensures ∙ c.if-too_wide.false)), omega arith)

pub at-requires : goal.at-requires
at-requires c =
    omega (arith, c.shifted_alphabet-alphabet.ensures, ltb-false 64 (shifted_alphabet c.args.family c.args.n c.args.k) (sym c.too_wide.ensures ∙ c.if-too_wide.false))

pub returns : goal.returns
returns c =
    let e : c.at.result ≡ count c.args.family c.args.n c.args.k =
    c.at.ensures ∙ entry_is_choose c.shifted_alphabet-alphabet.result c.args.k ∙ ap (λ s. choose s c.args.k) c.shifted_alphabet-alphabet.ensures in
    simp (le-ltb _ _ c.if-k-gt64.false, sym c.too_wide.ensures ∙ c.if-too_wide.false, e)
