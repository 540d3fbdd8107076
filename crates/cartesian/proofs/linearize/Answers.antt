-- `cartesian::linearize` meets its contract. Assumes nothing.
use mathlib.Core.Path.{sym, ap, ◌∙◌}
use borrow.Author.Tests.{lt-ltb, le-ltb, eq-eqb, ne_eqb}
use Rattle.answers.specs.Says.{answer_says}
use Rattle.answers.proofs.Says.{passed_on}
use Rattle.positional.specs.Positional.{product}
use Rattle.cartesian.proofs.Fits.{fits_given}
use Rattle.cartesian.proofs.Tuples.{within_is_digits}
use Rattle.cartesian.proofs.linearize.Goals as goal

pub returns-then-radices-gt16 : goal.returns-then-radices-gt16
returns-then-radices-gt16 c = simp (lt-ltb _ _ c.if-radices-gt16.true)

pub returns-then-digits-radices : goal.returns-then-digits-radices
returns-then-digits-radices c = simp (le-ltb _ _ c.if-radices-gt16.false, ne_eqb _ _ c.if-digits-radices.true)

pub returns-then-not-within : goal.returns-then-not-within
returns-then-not-within c = simp (le-ltb _ _ c.if-radices-gt16.false, eq-eqb _ _ c.if-digits-radices.false, sym c.within.ensures ∙ c.if-not-within.true)

pub returns-in_err-size : goal.returns-in_err-size
returns-in_err-size c =
    passed_on c.from_residual.result _ c.from_residual.ensures.1
    ∙ sym (simp (le-ltb _ _ c.if-radices-gt16.false, eq-eqb _ _ c.if-digits-radices.false, sym c.within.ensures ∙ c.if-not-within.false, sym c.size.ensures, c.in_err-size.was))

pub number-requires : goal.number-requires
number-requires c = (
  (within_is_digits c.args.radices.now c.args.digits.now c.if-digits-radices.false).0 (sym c.within.ensures ∙ c.if-not-within.false),
  (fits_given (product c.args.radices.now) _ (sym c.size.ensures ∙ ap answer_says c.in_ok-size.was)).0,
)

pub returns : goal.returns
returns c = simp (le-ltb _ _ c.if-radices-gt16.false, eq-eqb _ _ c.if-digits-radices.false, sym c.within.ensures ∙ c.if-not-within.false, sym c.size.ensures, c.in_ok-size.was, c.number.ensures)
