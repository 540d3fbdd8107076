-- The loop that writes the strides. Assumes nothing.
--   Striding rs base out s i    i strides are written, and s is the next one, if there is one
--   striding_starts, striding_turn, striding_ends    before the first, one more, and after the last
use mathlib.Core.Path.{◌≡◌, refl, sym, ap, subst, ◌∙◌}
use mathlib.Core.List.{List, ◌++◌}
use Prim.Native.Nat.{ℕ, ◌+◌, ◌*◌, ◌<◌, ◌≤◌, zero-le}
use native.Mathlib.Numerals.{add-one}
use native.Mathlib.Omega.{arith}
use lib.ListN.{length, get_or, drop, set}
use Rattle.positional.specs.Positional.{product, stride, strides}
use Rattle.positional.proofs.Strides.{stride_next, strides_long, strides_at}
use Rattle.answers.proofs.Lent.{Filled, fill_none, fill_more, filled-word}

pub record Striding (rs base out : List ℕ) (s i : ℕ) : Type 0 where
  pub axes : i ≤ length rs
  pub is : i < length rs → s ≡ stride rs i
  pub filled : Filled (stride rs) base out i

pub striding_starts : (rs base : List ℕ) → Striding rs base base 1 0
unfolding product
striding_starts rs base = record { axes = zero-le; is = λ h. refl; filled = fill_none (stride rs) base }

pub striding_turn : (rs base out : List ℕ) (s t i : ℕ) → Striding rs base out s i → i < length rs → length rs ≤ length base
    → (i + 1 < length rs → t ≡ s * get_or rs i 0) → Striding rs base (set out i s) t (i + 1)
striding_turn rs base out s t i k h l f =
    record {
      axes = omega arith;
      is = λ m. f m ∙ ap (λ (p : ℕ). p * get_or rs i 0) (k.is h) ∙ sym (stride_next rs i h) ∙ ap (stride rs) (sym (add-one i));
      filled = fill_more (stride rs) base out i s (omega arith) (k.is h) k.filled;
    }

pub striding_ends : (rs base out : List ℕ) (s i : ℕ) → Striding rs base out s i → length rs ≤ i → length rs ≤ length base
    → out ≡ strides rs ++ drop (length (strides rs)) base
striding_ends rs base out s i k h l =
    let e : i ≡ length (strides rs) = omega (arith, k.axes, strides_long rs) in
    filled-word (stride rs) base out (strides rs) (omega (arith, strides_long rs)) (λ j m. strides_at rs j (omega (arith, strides_long rs)))
    (subst (Filled (stride rs) base out) e k.filled)
