-- The loop that writes digits into a lent output, axis 0 first. Assumes nothing.
--   Spelling rs x base out left i    i digits of x are written, and left is what they leave of x
--   spelling_starts, spelling_turn, spelling_ends    before the first, one more, and after the last
use mathlib.Core.Path.{◌≡◌, refl, sym, ap, subst, ◌∙◌}
use mathlib.Core.List.{List, ◌++◌}
use Prim.Native.Nat.{ℕ, ◌+◌, ◌/◌, ◌%◌, ◌<◌, ◌≤◌, zero-le}
use native.Mathlib.Nat.{div-one, div-div-eq-div-mul}
use native.Mathlib.Numerals.{add-one}
use native.Mathlib.Omega.{arith}
use lib.ListN.{length, get_or, drop, set}
use Rattle.positional.specs.Positional.{product, stride, digits_of}
use Rattle.positional.proofs.Strides.{stride_next}
use Rattle.positional.proofs.Parts.{digits_of_long, digit_is}
use Rattle.answers.proofs.Lent.{Filled, fill_none, fill_more, filled-word}

pub record Spelling (rs : List ℕ) (x : ℕ) (base out : List ℕ) (left i : ℕ) : Type 0 where
  pub axes : i ≤ length rs
  pub is : left ≡ x / stride rs i
  pub filled : Filled (λ j. get_or (digits_of rs x) j 0) base out i

pub spelling_starts : (rs : List ℕ) (x : ℕ) (base : List ℕ) → Spelling rs x base base x 0
unfolding product
spelling_starts rs x base = record { axes = zero-le; is = sym (div-one x); filled = fill_none (λ j. get_or (digits_of rs x) j 0) base }

pub spelling_turn : (rs : List ℕ) (x : ℕ) (base out : List ℕ) (left i : ℕ) → Spelling rs x base out left i → i < length rs → length rs ≤ length base
    → Spelling rs x base (set out i (left % get_or rs i 0)) (left / get_or rs i 0) (i + 1)
spelling_turn rs x base out left i k h l =
    record {
      axes = omega arith;
      is = ap (λ (y : ℕ). y / get_or rs i 0) k.is ∙ div-div-eq-div-mul x (stride rs i) (get_or rs i 0) ∙ ap (λ (s : ℕ). x / s) (sym (stride_next rs i h) ∙ ap (stride rs) (sym (add-one i)));
      filled = fill_more (λ j. get_or (digits_of rs x) j 0) base out i (left % get_or rs i 0) (omega arith) (ap (λ (y : ℕ). y % get_or rs i 0) k.is ∙ sym (digit_is rs x i h)) k.filled;
    }

pub spelling_ends : (rs : List ℕ) (x : ℕ) (base out : List ℕ) (left i : ℕ) → Spelling rs x base out left i → length rs ≤ i → length rs ≤ length base
    → out ≡ digits_of rs x ++ drop (length (digits_of rs x)) base
spelling_ends rs x base out left i k h l =
    let e : i ≡ length (digits_of rs x) = omega (arith, k.axes, digits_of_long rs x) in
    filled-word (λ j. get_or (digits_of rs x) j 0) base out (digits_of rs x) (omega (arith, digits_of_long rs x)) (λ j m. refl)
    (subst (Filled (λ j. get_or (digits_of rs x) j 0) base out) e k.filled)
