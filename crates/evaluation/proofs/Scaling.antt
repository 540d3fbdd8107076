-- One more number of a row is scaled. Assumes nothing.
--   scaled_none, scaled_more    before the first number, and after one more
use mathlib.Core.List.{List}
use mathlib.Core.Path.{◌≡◌, refl, ◌∙◌, ap}
use mathlib.Core.Logic.{⊎_elim}
use Prim.Native.Nat.{ℕ, ◌+◌, ◌<◌}
use native.Mathlib.Omega.{arith}
use native.Mathlib.Nat.{eq-or-lt_of_le}
use lib.ListN.{length, get_or, set, length-set}
use lib.Seq.{get_or-set_same, get_or-set_other}
use lib.Ieee.{Float, nan, binary64, mul}
use Rattle.evaluation.specs.Rows.{Scaled}

pub scaled_none : (t : Float) (r : List Float) → Scaled 0 t r r
scaled_none t r = record { long = refl; scaled = λ a h. absurd (omega arith); kept = λ a h. refl }

pub scaled_more : (t : Float) (r₀ r : List Float) (k : ℕ) → k < length r₀ → Scaled k t r₀ r → Scaled (k + 1) t r₀ (set r k (mul binary64 (get_or r k nan) t))
scaled_more t r₀ r k inside s = record {
  long = length-set r k _ ∙ s.long;
  scaled = λ a h. ⊎_elim
      (λ (e : a ≡ k). rw e (get_or-set_same r k _ nan (rw s.long inside) ∙ ap (λ (x : Float). mul binary64 x t) (s.kept k (omega arith))))
      (λ (e : a < k). get_or-set_other r k a _ nan (λ q. omega arith) ∙ s.scaled a e)
      (eq-or-lt_of_le (omega arith));
  kept = λ a h. get_or-set_other r k a _ nan (λ q. omega arith) ∙ s.kept a (omega arith);
}
