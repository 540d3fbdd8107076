-- Equal radices (01: "A digit word has one radix"): k radices n are the list `replicate k n`. Assumes nothing.
--   product-equal    their product is n ^ k
--   stride-equal    the stride at i is n ^ i
--   take-equal    the first of them are fewer of them
--   without_equal    one taken out is one fewer
--   below_is_digits    a word of symbols below n has good digits, and the other way round
use mathlib.Core.Path.{◌≡◌, refl, sym, ap, ◌∙◌}
use mathlib.Core.Logic.{◌↔◌}
use mathlib.Core.List.{List, [], ◌∷◌}
use Prim.Native.Nat.{ℕ, zero, suc, ◌*◌, ◌^◌, ◌≤◌}
use native.Mathlib.Nat.{le_of_suc-le-suc, not-suc-le-zero, pow-zero, pow-succ'}
use lib.ListN.{length, take, replicate}
use Rattle.words.specs.Word.{Below}
use Rattle.words.specs.Without.{without}
use Rattle.positional.specs.Positional.{product, stride, Digits}

pub product-equal : (n k : ℕ) → product (replicate k n) ≡ n ^ k
unfolding product
product-equal n zero = sym (pow-zero n)
product-equal n (suc k) = ap (λ (p : ℕ). n * p) (product-equal n k) ∙ sym (pow-succ' n k)

pub take-equal : (n k i : ℕ) → i ≤ k → take i (replicate k n) ≡ replicate i n
take-equal n k zero h = refl
take-equal n zero (suc i) h = absurd (not-suc-le-zero h)
take-equal n (suc k) (suc i) h = ap (λ (l : List ℕ). n ∷ l) (take-equal n k i (le_of_suc-le-suc h))

pub stride-equal : (n k i : ℕ) → i ≤ k → stride (replicate k n) i ≡ n ^ i
stride-equal n k i h = ap product (take-equal n k i h) ∙ product-equal n i

pub without_equal : (n k i : ℕ) → i ≤ k → without i (replicate (suc k) n) ≡ replicate k n
without_equal n k zero h = refl
without_equal n zero (suc i) h = absurd (not-suc-le-zero h)
without_equal n (suc k) (suc i) h = ap (λ (l : List ℕ). n ∷ l) (without_equal n k i (le_of_suc-le-suc h))

pub below_is_digits : (n : ℕ) (w : List ℕ) → Below n w ↔ Digits (replicate (length w) n) w
below_is_digits n w = (to w, from w)
  where
    to : (w : List ℕ) → Below n w → Digits (replicate (length w) n) w
    to [] b = tt
    to (x ∷ xs) b = (b.0, to xs b.1)

    from : (w : List ℕ) → Digits (replicate (length w) n) w → Below n w
    from [] g = tt
    from (x ∷ xs) g = (g.0, from xs g.1)
