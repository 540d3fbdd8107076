-- `spelling::is_bytes` meets its contract: by the text, which is `-`, of an even number of digits, or of no bytes. Assumes nothing.
use mathlib.Core.Path.{◌≡◌, refl}
use mathlib.Core.Bool.{Bool, true, false}
use Prim.Native.Nat.{ℕ}
use native.Mathlib.Omega.{arith}
use Rattle.spelling.proofs.Pairs.{dash-is-bytes, digits-are-bytes, bytes-are-digits}
use Rattle.spelling.proofs.is_bytes.Goals as goal

refused : {A : Type 0} {t : Bool} → t ≡ true → t ≡ false → A
refused p q = absurd (let z : ◌≡◌ {A = ℕ} 0 1 = cc in omega arith)

pub returns-then-same : goal.returns-then-same
returns-then-same c = (λ t. dash-is-bytes _ (c.same.ensures.0 c.if-same.true), λ o. refl)

pub returns-then-text-eq0 : goal.returns-then-text-eq0
returns-then-text-eq0 c = (λ t. refused t refl, λ o. absurd (omega (arith, (bytes-are-digits _ (λ e. refused (c.same.ensures.1 e) c.if-same.false) o).0)))

pub returns-then-text-ne0 : goal.returns-then-text-ne0
returns-then-text-ne0 c = (λ t. refused t refl, λ o. absurd (omega (arith, (bytes-are-digits _ (λ e. refused (c.same.ensures.1 e) c.if-same.false) o).1.0)))

pub returns : goal.returns
returns c = (
  λ t. digits-are-bytes _ (λ e. omega arith) (omega arith) (c.all_digits.ensures.0 t),
  λ o. c.all_digits.ensures.1 (bytes-are-digits _ (λ e. refused (c.same.ensures.1 e) c.if-same.false) o).1.1,
)
