-- `requests::kind` meets its contract: each return by the comparison or the name that led there. Assumes nothing.
use Rattle.std.specs.Prelude.{Some}
use mathlib.Core.Path.{◌≡◌, refl, ap, subst, ◌∙◌}
use mathlib.Core.Bool.{Bool, true, false}
use Prim.Native.Nat.{ℕ}
use native.Mathlib.Omega.{arith}
use Rattle.words.specs.declared.Family.TheVariants.{Forbidden, Allowed}
use Rattle.text.specs.Names.{Names}
use Rattle.requests.specs.Protocol.{family, slash, here, nowhere, raw}
use Rattle.requests.proofs.Passing.{kind_is, no_kind}
use Rattle.requests.proofs.kind.Goals as goal

refused : {t : Bool} → t ≡ true → t ≡ false → ⊥
refused p q = let z : ◌≡◌ {A = ℕ} 0 1 = cc in omega arith

pub returns-then-same : goal.returns-then-same
returns-then-same c = kind_is _ slash 47 (c.same.ensures.0 c.if-same.true) refl refl (omega arith)

pub returns-then-same-2 : goal.returns-then-same-2
returns-then-same-2 c = kind_is _ here 104 (c.same-2.ensures.0 c.if-same-2.true) refl refl (omega arith)

pub returns-then-same-3 : goal.returns-then-same-3
returns-then-same-3 c = kind_is _ nowhere 119 (c.same-3.ensures.0 c.if-same-3.true) refl refl (omega arith)

pub returns-then-same-4 : goal.returns-then-same-4
returns-then-same-4 c = kind_is _ raw 114 (c.same-4.ensures.0 c.if-same-4.true) refl refl (omega arith)

pub returns-in-Some-Forbidden : goal.returns-in-Some-Forbidden
returns-in-Some-Forbidden c = kind_is _ (family Forbidden) 102 (subst (Names _) (c.in-Some-Forbidden.is ∙ ap Some c.in-Some-Forbidden.field-0-is) c.family.ensures) refl refl (omega arith)

pub returns-in-Some-Allowed : goal.returns-in-Some-Allowed
returns-in-Some-Allowed c = kind_is _ (family Allowed) 97 (subst (Names _) (c.in-Some-Allowed.is ∙ ap Some c.in-Some-Allowed.field-0-is) c.family.ensures) refl refl (omega arith)

pub returns-in-None : goal.returns-in-None
returns-in-None c =
    no_kind _ _ c.in-None.is c.family.ensures
    (λ e. refused (c.same.ensures.1 e) c.if-same.false)
    (λ e. refused (c.same-2.ensures.1 e) c.if-same-2.false)
    (λ e. refused (c.same-3.ensures.1 e) c.if-same-3.false)
    (λ e. refused (c.same-4.ensures.1 e) c.if-same-4.false)
