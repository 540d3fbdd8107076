-- `requests::asks` meets its contract: by the first space of the entry. Assumes nothing.
use mathlib.Core.Path.{◌≡◌}
use mathlib.Core.Bool.{Bool, true, false}
use Prim.Native.Nat.{ℕ}
use native.Mathlib.Omega.{arith}
use Rattle.requests.proofs.Entries.{another-verb, no-pattern, pattern-decides}
use Rattle.requests.proofs.asks.Goals as goal

refused : {t : Bool} → t ≡ true → t ≡ false → ⊥
refused p q = let z : ◌≡◌ {A = ℕ} 0 1 = cc in omega arith

pub returns-then-not-same : goal.returns-then-not-same
returns-then-not-same c = another-verb _ _ _ _ c.find-end.ensures (λ e. refused (c.same.ensures.1 e) (c.if-not-same.true))

pub returns-then-end-entry : goal.returns-then-end-entry
returns-then-end-entry c = no-pattern _ _ _ _ c.find-end.ensures c.if-end-entry.true

pub returns : goal.returns
returns c = pattern-decides _ _ _ _ c.find-end.ensures _ c.if-end-entry.false (c.same.ensures.0 (c.if-not-same.false)) c.are.ensures
