-- `cartesian_strides::plus` meets its contract: a number of 2^64 or more stays one. Assumes nothing.
use mathlib.Core.Path.{sym, ap, ap₂, ◌∙◌}
use Prim.Native.Nat.{ℕ, ◌+◌}
use native.Mathlib.Omega.{arith}
use Rattle.answers.specs.Says.{gives, answer_says}
use Rattle.answers.proofs.Says.{passed_on}
use Rattle.cartesian.proofs.Fits.{fits_small, fits_big, fits_given, stays-big}
use Rattle.cartesian_strides.proofs.plus.Goals as goal

pub returns-in_err-x : goal.returns-in_err-x
returns-in_err-x c = λ m n p q.
    let r = sym (ap answer_says c.in_err-x.was) ∙ p in
    passed_on c.from_residual.result _ c.from_residual.ensures.1 ∙ r ∙ stays-big m (m + n) _ _ r (omega arith)

pub returns-in_err-y : goal.returns-in_err-y
returns-in_err-y c = λ m n p q.
    let r = sym (ap answer_says c.in_err-y.was) ∙ q in
    passed_on c.from_residual-in_err-y.result _ c.from_residual-in_err-y.ensures.1 ∙ r ∙ stays-big n (m + n) _ _ r (omega arith)

pub returns-then-x-y : goal.returns-then-x-y
returns-then-x-y c = λ m n p q. sym (fits_big (m + n) (omega (
  arith,
  (fits_given m _ (sym p ∙ ap answer_says c.in_ok-x.was)).1,
  (fits_given n _ (sym q ∙ ap answer_says c.in_ok-y.was)).1,
)))

pub returns : goal.returns
returns c = λ m n p q.
    let e = (fits_given m _ (sym p ∙ ap answer_says c.in_ok-x.was)).1 in
    let f = (fits_given n _ (sym q ∙ ap answer_says c.in_ok-y.was)).1 in
    ap₂ (λ (x y : ℕ). gives (x + y)) e f ∙ sym (fits_small (m + n) (omega arith))
