-- `requests::verb_at` meets its contract: the text up to the next space is the verb. Assumes nothing.
use mathlib.Core.Path.{◌≡◌, refl}
use mathlib.Core.Bool.{Bool, true, false}
use Prim.Native.Nat.{ℕ}
use native.Mathlib.Omega.{arith}
use Rattle.requests.proofs.Opening.{verb-is, no-verb}
use Rattle.requests.proofs.verb_at.Goals as goal

refused : {t : Bool} → t ≡ true → t ≡ false → ⊥
refused p q = let z : ◌≡◌ {A = ℕ} 0 1 = cc in omega arith

pub returns-then-same : goal.returns-then-same
returns-then-same c = no-verb _ _ _ c.requires c.find-end.ensures (c.same.ensures.0 c.if-same.true) c.args.room

pub returns : goal.returns
returns c = (refl, (refl, verb-is _ _ _ c.requires c.find-end.ensures (λ e. refused (c.same.ensures.1 e) c.if-same.false)))
