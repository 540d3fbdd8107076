-- `spelling::size` meets its contract: by the sign of the number. Assumes nothing.
use mathlib.Core.Path.{sym, ap, subst, ◌∙◌}
use Prim.Native.Nat.{◌+◌}
use native.Mathlib.Numerals.{add-one}
use native.Mathlib.Omega.{arith}
use lib.Dec.{T}
use lib.IntN.{ℤ, nat_abs}
use lib.Signed.{non_neg}
use mir.Syntax.{w64}
use mir.Val.{Fits}
use Rattle.spelling.specs.Signed.{size_of}
use Rattle.spelling.proofs.Minus.{turned-fits, below-zero, not_below}
use Rattle.spelling.proofs.size.Goals as goal

pub overflow_sub-result : goal.overflow_sub-result
overflow_sub-result c = turned-fits _ c.ranges.z c.if-z-lt0.true

pub overflow_cast-result : goal.overflow_cast-result
overflow_cast-result c =
    let t = below-zero _ c.ranges.z c.if-z-lt0.true in
    subst (λ (y : ℤ). T (non_neg y) × Fits w64 (nat_abs y)) (sym t.3) (tt, record { fits = omega (arith, t.2) })

pub overflow_add-result : goal.overflow_add-result
overflow_add-result c =
    let t = below-zero _ c.ranges.z c.if-z-lt0.true in
    subst (λ (y : ℤ). Fits w64 (nat_abs y + 1)) (sym t.3) (record { fits = omega (arith, t.2) })

pub returns-then-z-lt0 : goal.returns-then-z-lt0
returns-then-z-lt0 c =
    let t = below-zero _ c.ranges.z c.if-z-lt0.true in
    ap (λ (y : ℤ). nat_abs y + 1) t.3 ∙ add-one t.0 ∙ ap size_of (sym t.1)

pub overflow_cast-result-2 : goal.overflow_cast-result-2
overflow_cast-result-2 c =
    let t = not_below _ c.ranges.z c.if-z-lt0.false in
    subst (λ (y : ℤ). T (non_neg y) × Fits w64 (nat_abs y)) (sym t.3) (tt, record { fits = omega (arith, t.2) })

pub returns : goal.returns
returns c =
    let t = not_below _ c.ranges.z c.if-z-lt0.false in
    ap nat_abs t.3 ∙ ap size_of (sym t.1)
