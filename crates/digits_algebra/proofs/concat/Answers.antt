-- `digits_algebra::concat` meets its contract: refusals of the checks are passed on, and the ranks are joined by the laws of `Joining`. Assumes nothing.
use mathlib.Core.Path.{◌≡◌, sym, ap, ◌∙◌}
use mathlib.Core.Bool.{true}
use Prim.Native.Nat.{ℕ, ◌+◌, ◌*◌, ◌^◌, ◌<◌}
use native.Mathlib.Omega.{arith}
use borrow.Author.Tests.{leb-false, lt-ltb, le-ltb, eq-eqb, ne_eqb}
use lib.Dec.{leb}
use Rattle.answers.specs.Says.{answer_says}
use Rattle.answers.proofs.Says.{passed_on}
use Rattle.digits.specs.Rules.{given}
use Rattle.digits_algebra.specs.Rules.{digit_join_says}
use Rattle.digits.proofs.Rules.{known, given_passed, given_refused}
use Rattle.digits_algebra.proofs.Joining.{concat_passed, joint-rank, joint-count, joined_given}
use Rattle.digits_algebra.proofs.concat.Goals as goal

pub returns-in_err-stride : goal.returns-in_err-stride
returns-in_err-stride c =
    passed_on c.from_residual.result _ c.from_residual.ensures.1
    ∙ sym (given_refused c.args.x _ _ (given c.args.y (digit_join_says c.args.x c.args.y)) (sym (ap answer_says c.in_err-stride.was) ∙ c.check.ensures))

pub returns-in_err-others : goal.returns-in_err-others
returns-in_err-others c =
    let e = sym (ap answer_says c.in_ok-stride.was) ∙ c.check.ensures in
    let f = sym (ap answer_says c.in_err-others.was) ∙ c.check-2.ensures in
    passed_on c.from_residual-in_err-others.result _ c.from_residual-in_err-others.ensures.1
    ∙ sym (given_passed c.args.x _ (given c.args.y (digit_join_says c.args.x c.args.y)) e ∙ given_refused c.args.y _ _ (digit_join_says c.args.x c.args.y) f)

pub returns-then-radix-y : goal.returns-then-radix-y
returns-then-radix-y c =
    let e = sym (ap answer_says c.in_ok-stride.was) ∙ c.check.ensures in
    let f = sym (ap answer_says c.in_ok-others.was) ∙ c.check-2.ensures in
    sym (concat_passed c.args.x c.args.y _ _ e f ∙ simp (ne_eqb _ _ c.if-radix-y.true))

pub returns-then-degree-gt64 : goal.returns-then-degree-gt64
returns-then-degree-gt64 c =
    let e = sym (ap answer_says c.in_ok-stride.was) ∙ c.check.ensures in
    let f = sym (ap answer_says c.in_ok-others.was) ∙ c.check-2.ensures in
    sym (concat_passed c.args.x c.args.y _ _ e f ∙ simp (eq-eqb _ _ c.if-radix-y.false, lt-ltb _ _ c.if-degree-gt64.true))

pub returns-then-exceeds : goal.returns-then-exceeds
returns-then-exceeds c =
    let e = sym (ap answer_says c.in_ok-stride.was) ∙ c.check.ensures in
    let f = sym (ap answer_says c.in_ok-others.was) ∙ c.check-2.ensures in
    let k = known c.args.x _ e in
    let l = known c.args.y _ f in
    let s : ℕ = c.in_ok-stride.stride in
    let t : ℕ = c.in_ok-others.others in
    let m : s * t ≡ c.args.x.radix ^ (c.args.x.degree + c.args.y.degree) = joint-count c.args.x c.args.y s t k.is l.is c.if-radix-y.false in
    let big : leb (2 ^ 64) (c.args.x.radix ^ (c.args.x.degree + c.args.y.degree)) ≡ true = ap (leb (2 ^ 64)) (sym m) ∙ sym c.exceeds.ensures ∙ c.if-exceeds.true in
    sym (concat_passed c.args.x c.args.y _ _ e f ∙ simp (eq-eqb _ _ c.if-radix-y.false, le-ltb _ _ c.if-degree-gt64.false, big))

pub overflow_add-rank : goal.overflow_add-rank
overflow_add-rank c =
    let e = sym (ap answer_says c.in_ok-stride.was) ∙ c.check.ensures in
    let f = sym (ap answer_says c.in_ok-others.was) ∙ c.check-2.ensures in
    let k = known c.args.x _ e in
    let l = known c.args.y _ f in
    let s : ℕ = c.in_ok-stride.stride in
    let t : ℕ = c.in_ok-others.others in
    let m : s * t ≡ c.args.x.radix ^ (c.args.x.degree + c.args.y.degree) = joint-count c.args.x c.args.y s t k.is l.is c.if-radix-y.false in
    let n : c.args.x.radix ^ (c.args.x.degree + c.args.y.degree) < 2 ^ 64 = omega (arith, m, leb-false (2 ^ 64) (s * t) (sym c.exceeds.ensures ∙ c.if-exceeds.false)) in
    omega (arith, joint-rank c.args.x c.args.y s k.low l.low c.if-radix-y.false k.is, n)

pub returns : goal.returns
returns c =
    let e = sym (ap answer_says c.in_ok-stride.was) ∙ c.check.ensures in
    let f = sym (ap answer_says c.in_ok-others.was) ∙ c.check-2.ensures in
    let k = known c.args.x _ e in
    let l = known c.args.y _ f in
    let s : ℕ = c.in_ok-stride.stride in
    let t : ℕ = c.in_ok-others.others in
    let m : s * t ≡ c.args.x.radix ^ (c.args.x.degree + c.args.y.degree) = joint-count c.args.x c.args.y s t k.is l.is c.if-radix-y.false in
    let n : c.args.x.radix ^ (c.args.x.degree + c.args.y.degree) < 2 ^ 64 = omega (arith, m, leb-false (2 ^ 64) (s * t) (sym c.exceeds.ensures ∙ c.if-exceeds.false)) in
    joined_given c.args.x c.args.y _ _ s e f k.low l.low c.if-radix-y.false c.if-degree-gt64.false n k.is
