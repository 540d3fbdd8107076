-- `digits::from_symbols` meets its contract: each return by the checks that led there. Assumes nothing.
use mathlib.Core.Path.{sym, ap, ◌∙◌}
use Prim.Native.Nat.{◌^◌}
use borrow.Author.Tests.{lt-ltb, le-ltb, lt-leb}
use lib.ListN.{length}
use Rattle.answers.specs.Says.{gives, refused_if, and_then, answer_says}
use Rattle.answers.proofs.Says.{passed_on}
use Rattle.bits.proofs.Member.{reaches_not}
use Rattle.cartesian.proofs.Fits.{fits_given, fits_refused}
use Rattle.digits.specs.Rules.{digit_word_of}
use Rattle.digits.proofs.from_symbols.Goals as goal

pub returns-then-degree-gt64 : goal.returns-then-degree-gt64
returns-then-degree-gt64 c = simp (lt-ltb _ _ c.if-degree-gt64.true)

pub returns-then-reaches : goal.returns-then-reaches
returns-then-reaches c = simp (le-ltb _ _ c.if-degree-gt64.false, sym c.reaches.ensures ∙ c.if-reaches.true)

pub returns-in_err-power : goal.returns-in_err-power
returns-in_err-power c =
    let e = sym (ap answer_says c.in_err-power.was) ∙ c.power.ensures in
    let t = fits_refused (c.args.radix ^ length c.args.symbols.now) _ _ e in
    simp (le-ltb _ _ c.if-degree-gt64.false, sym c.reaches.ensures ∙ c.if-reaches.false, t) (passed_on c.from_residual.result _ c.from_residual.ensures.1 ∙ ap (λ s. and_then s (λ n. gives (digit_word_of c.args.radix c.args.symbols.now))) (e ∙ ap (λ b. refused_if b 9 (gives (c.args.radix ^ length c.args.symbols.now))) t))

pub number-rank-requires : goal.number-rank-requires
number-rank-requires c = (
  (reaches_not c.args.radix c.args.symbols.now).0 (sym c.reaches.ensures ∙ c.if-reaches.false),
  (fits_given (c.args.radix ^ length c.args.symbols.now) _ (sym c.power.ensures ∙ ap answer_says c.in_ok-power.was)).0,
)

pub returns : goal.returns
returns c =
    let f = fits_given (c.args.radix ^ length c.args.symbols.now) _ (sym c.power.ensures ∙ ap answer_says c.in_ok-power.was) in
    simp (le-ltb _ _ c.if-degree-gt64.false, sym c.reaches.ensures ∙ c.if-reaches.false, lt-leb (2 ^ 64) (c.args.radix ^ length c.args.symbols.now) f.0, c.number-rank.ensures)
