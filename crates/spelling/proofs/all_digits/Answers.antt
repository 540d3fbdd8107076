-- `spelling::all_digits` meets its contract. The invariant: what was passed are digits. Assumes nothing.
use mathlib.Core.Path.{◌≡◌, refl}
use mathlib.Core.Bool.{true, false}
use Prim.Native.Nat.{ℕ}
use native.Mathlib.Omega.{arith}
use borrow.Author.Count.{below_more}
use Rattle.spelling.proofs.all_digits.Goals as goal

refused : {A : Type 0} → false ≡ true → A
refused e = absurd (let z : ◌≡◌ {A = ℕ} 0 1 = cc in omega arith)

pub returns-then-digit-gt15 : goal.returns-then-digit-gt15
returns-then-digit-gt15 c = (λ t. refused t, λ h. let g = h c.loop-b.b-index (omega arith) in absurd (omega (arith, c.digit.ensures.only g.value g.below g.writes, g.below)))

pub loop-b-preserved : goal.loop-b-preserved
loop-b-preserved c = below_more _ _ c.loop-b.invariant (record { value = c.digit.result; below = omega arith; writes = c.digit.ensures.says (omega arith) })

pub returns : goal.returns
returns c = (λ t. λ k l. c.loop-b.invariant k (omega arith), λ h. refl)
