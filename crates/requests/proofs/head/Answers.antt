-- `requests::head` meets its contract: by the first text of the line, which is `room` or the verb. Assumes nothing.
use mathlib.Core.Path.{◌≡◌}
use mathlib.Core.Bool.{Bool, true, false}
use Prim.Native.Nat.{ℕ}
use native.Mathlib.Omega.{arith}
use Rattle.requests.proofs.Opening.{opens-with-room, opens-with-verb}
use Rattle.requests.proofs.head.Goals as goal

refused : {t : Bool} → t ≡ true → t ≡ false → ⊥
refused p q = let z : ◌≡◌ {A = ℕ} 0 1 = cc in omega arith

pub returns-then-same : goal.returns-then-same
returns-then-same c = opens-with-room _ _ (omega arith) c.find-end.ensures c.after_room.result (c.same.ensures.0 c.if-same.true) c.after_room.ensures

pub returns : goal.returns
returns c = opens-with-verb _ _ (omega arith) c.find-end.ensures (λ e. refused (c.same.ensures.1 e) c.if-same.false)
