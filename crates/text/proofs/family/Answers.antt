-- `text::family` meets its contract: each return by the comparisons that led there. Assumes nothing.
use mathlib.Core.Path.{◌≡◌}
use mathlib.Core.Bool.{Bool, true, false}
use Prim.Native.Nat.{ℕ}
use native.Mathlib.Omega.{arith}
use Rattle.words.specs.declared.Family.{Family}
use Rattle.words.specs.declared.Family.TheVariants.{Forbidden, Allowed}
use Rattle.text.specs.Names.{name_of}
use Rattle.text.proofs.family.Goals as goal

refused : {t : Bool} → t ≡ true → t ≡ false → ⊥
refused p q = let z : ◌≡◌ {A = ℕ} 0 1 = cc in omega arith

pub returns-then-same : goal.returns-then-same
returns-then-same c = c.same.ensures.0 c.if-same.true

pub returns-then-same-2 : goal.returns-then-same-2
returns-then-same-2 c = c.same-2.ensures.0 c.if-same-2.true

pub returns : goal.returns
returns c = unnamed
  where
    unnamed : (F : Family) → c.args.name.now ≡ name_of F → ⊥
    unnamed Forbidden e = refused (c.same.ensures.1 e) c.if-same.false
    unnamed Allowed e = refused (c.same-2.ensures.1 e) c.if-same-2.false
