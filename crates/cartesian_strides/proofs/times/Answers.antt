-- `cartesian_strides::times` meets its contract: 0 times a number of 2^64 or more is 0. Assumes nothing.
use mathlib.Core.Path.{sym, ap, ◌∙◌}
use Prim.Native.Nat.{ℕ, ◌*◌, ◌^◌}
use native.Mathlib.Nat.{mul-zero, le-mul_of_pos_right}
use native.Mathlib.Omega.{arith}
use borrow.Author.Tests.{leb-true, leb-false}
use Rattle.answers.specs.Says.{answer_says}
use Rattle.answers.proofs.Says.{passed_on}
use Rattle.cartesian.specs.Checks.{number_says}
use Rattle.cartesian.proofs.Fits.{fits_small, fits_big, fits_given, stays-big}
use Rattle.cartesian_strides.proofs.times.Goals as goal

pub returns-then-r-eq0 : goal.returns-then-r-eq0
returns-then-r-eq0 c = λ n p. sym (ap (λ (r : ℕ). number_says (n * r)) c.if-r-eq0.true ∙ ap number_says (mul-zero n))

pub returns-in_err-x : goal.returns-in_err-x
returns-in_err-x c = λ n p.
    let r = sym (ap answer_says c.in_err-x.was) ∙ p in
    passed_on c.from_residual.result _ c.from_residual.ensures.1 ∙ r ∙ stays-big n (n * c.args.r) _ _ r (le-mul_of_pos_right n (omega arith))

pub returns-then-exceeds : goal.returns-then-exceeds
returns-then-exceeds c = λ n p.
    let e = (fits_given n _ (sym p ∙ ap answer_says c.in_ok-x.was)).1 in
    sym (ap (λ (x : ℕ). number_says (x * c.args.r)) (sym e) ∙ fits_big (c.in_ok-x.x * c.args.r) (leb-true (2 ^ 64) (c.in_ok-x.x * c.args.r) (sym c.exceeds.ensures ∙ c.if-exceeds.true)))

pub returns : goal.returns
returns c = λ n p.
    let e = (fits_given n _ (sym p ∙ ap answer_says c.in_ok-x.was)).1 in
    sym (ap (λ (x : ℕ). number_says (x * c.args.r)) (sym e) ∙ fits_small (c.in_ok-x.x * c.args.r) (leb-false (2 ^ 64) (c.in_ok-x.x * c.args.r) (sym c.exceeds.ensures ∙ c.if-exceeds.false)))
