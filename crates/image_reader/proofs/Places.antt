-- The place of a reader record. Assumes nothing.
--   elsewhere    with another place than 0 every call refuses 7
--   in_place    with 0 it says what the plain call says
use mathlib.Core.Path.{◌≡◌, sym, ap}
use mathlib.Core.Bool.{Bool, not}
use Prim.Native.Nat.{ℕ}
use borrow.Author.Tests.{eq-eqb, ne_eqb}
use Rattle.answers.specs.Says.{Says, refuses, refused_if}
use Rattle.image_reader.specs.Placed.{placed}

pub elsewhere : {A : Type 0} (place : ℕ) (s : Says A) → (place ≡ 0 → ⊥) → refuses 7 ≡ placed place s
elsewhere place s h = sym (ap (λ (t : Bool). refused_if (not t) 7 s) (ne_eqb place 0 h))

pub in_place : {A : Type 0} (place : ℕ) (s : Says A) → place ≡ 0 → s ≡ placed place s
in_place place s e = sym (ap (λ (t : Bool). refused_if (not t) 7 s) (eq-eqb place 0 e))
