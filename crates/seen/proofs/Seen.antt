-- The symbols of a list without repeats as the digits of a number, which tells the smaller and the larger ones without a second look at the list. All at any width.
-- Assumes nothing.
--   distinct_has_no_repeats    a list in which nothing stands twice has no repeats
--   front_has_no_repeats    nor has its beginning
--   Apart n w    no symbol of w stands in it twice, and all are below n; apart_front    the same of its beginning
--   set_of_seen    the ones of the number are the sorted list
--   seen_fits    the number has n digits
--   smaller-seen, larger-seen    so many ones below x, and so many above, as the list has smaller and larger symbols
--   ones-differ    the digits in which two numbers differ are as many as both have ones, but for an even number
use mathlib.Core.Path.{◌≡◌, refl, sym, ap, ap₂, ◌∙◌}
use mathlib.Core.List.{List, [], ◌∷◌}
use Prim.Native.Nat.{ℕ, zero, suc, ◌+◌, ◌/◌, ◌%◌, ◌^◌, ◌<◌}
use native.Mathlib.Nat.{mod-lt, lt_of_not-le}
use native.Mathlib.Omega.{arith}
use lib.ListN.{length, take, drop, take-append-drop}
use lib.Bits.{bit_xor, xor_step, differ}
use lib.Count.{ones, ones_step, ones_cat}
use lib.Pow.{shr-shr}
use Rattle.words.specs.Word.{Below}
use Rattle.words.specs.HowMany.{Distinct}
use Rattle.words.specs.Bits.{bits_of, set_bits}
use Rattle.words.specs.Inversions.{smaller_in, larger_in, parity}
use Rattle.words.proofs.Bits.{bits_fit, set_of_bits, set_bits_long}
use Rattle.words.proofs.Members.{in_below, below_of_in}
use Rattle.words.proofs.Inversions.{absent_is_none, crossings_with_one}
use Rattle.merging.specs.Sorting.{sorted, repeats}
use Rattle.merging.proofs.Sorting.{sorted_rearranges, smaller-rearranged, crossings-rearranged}
use Rattle.merging.proofs.Totals.{total-sorted, bits_are_total}
use Rattle.merging.proofs.Repeats.{sorted_strict, repeats_append}
use Rattle.merging.proofs.Folding.{larger_is_above}

pub distinct_has_no_repeats : (w : List ℕ) → Distinct w → repeats w ≡ 0
unfolding repeats
distinct_has_no_repeats [] d = refl
distinct_has_no_repeats (x ∷ xs) d = omega (arith, (absent_is_none x xs).1 d.0, distinct_has_no_repeats xs d.1)

pub front_has_no_repeats : (k : ℕ) (w : List ℕ) → repeats w ≡ 0 → repeats (take k w) ≡ 0
front_has_no_repeats k w e = omega (arith, repeats_append (take k w) (drop k w), ap repeats (take-append-drop k w), e)

pub record Apart (n : ℕ) (w : List ℕ) : Type 0 where
  pub below : Below n w
  pub once : repeats w ≡ 0

below_front : (n k : ℕ) (w : List ℕ) → Below n w → Below n (take k w)
below_front n zero w b = tt
below_front n (suc k) [] b = tt
below_front n (suc k) (x ∷ xs) b = (b.0, below_front n k xs b.1)

pub apart_front : (n k : ℕ) (w : List ℕ) → Apart n w → Apart n (take k w)
apart_front n k w a = record { below = below_front n k w a.below; once = front_has_no_repeats k w a.once }

pub set_of_seen : (w : List ℕ) → repeats w ≡ 0 → set_bits (bits_of w) ≡ sorted w
set_of_seen w e =
    ap set_bits (bits_are_total w ∙ sym (total-sorted (λ y. 2 ^ y) w) ∙ sym (bits_are_total (sorted w))) ∙ set_of_bits (sorted w) (sorted_strict w e)

-- what is sorted is below n where the list is
sorted_below : (n : ℕ) (w : List ℕ) → Below n w → Below n (sorted w)
sorted_below n w b =
    below_of_in n (sorted w)
    (λ x h. lt_of_not-le (λ l. (absent_is_none x (sorted w)).0 (sym (sorted_rearranges w x) ∙ (absent_is_none x w).1 (λ g. omega (arith, l, in_below n x w b g))) h))

pub seen_fits : (n : ℕ) (w : List ℕ) → Apart n w → bits_of w < 2 ^ n
seen_fits n w a =
    omega (
      arith,
      bits_are_total w,
      total-sorted (λ y. 2 ^ y) w,
      bits_are_total (sorted w),
      bits_fit n (sorted w) (sorted_strict w a.once) (sorted_below n w a.below),
    )

pub smaller-seen : (x : ℕ) (w : List ℕ) → repeats w ≡ 0 → smaller_in x (set_bits (bits_of w)) ≡ smaller_in x w
smaller-seen x w e = ap (smaller_in x) (set_of_seen w e) ∙ sym (smaller-rearranged x w (sorted w) (sorted_rearranges w))

pub larger-seen : (x : ℕ) (w : List ℕ) → repeats w ≡ 0 → length (set_bits (bits_of w / 2 ^ x / 2)) ≡ larger_in x w
larger-seen x w e =
    let k : x + 1 ≡ suc x = omega arith in
    ap (λ (a : ℕ). length (set_bits a)) (shr-shr (bits_of w) x 1 ∙ ap (λ (j : ℕ). bits_of w / 2 ^ j) k)
    ∙ sym (larger_is_above x (bits_of w))
    ∙ ap (larger_in x) (set_of_seen w e)
    ∙ sym (crossings_with_one (sorted w) x)
    ∙ sym (crossings-rearranged w (sorted w) (x ∷ []) (x ∷ []) (sorted_rearranges w) (λ y. refl))
    ∙ crossings_with_one w x

-- ---- digits that differ

digit_differs : (x y : ℕ) → x < 2 → y < 2 → parity (ones (differ x y)) ≡ parity (x + y)
unfolding ones
digit_differs zero zero h l = refl
digit_differs zero (suc zero) h l = refl
digit_differs (suc zero) zero h l = refl
digit_differs (suc zero) (suc zero) h l = refl
digit_differs (suc (suc x)) y h l = absurd (omega arith)
digit_differs zero (suc (suc y)) h l = absurd (omega arith)
digit_differs (suc zero) (suc (suc y)) h l = absurd (omega arith)

differ-small : (x y : ℕ) → x < 2 → y < 2 → differ x y < 2
differ-small zero zero h l = omega arith
differ-small zero (suc zero) h l = omega arith
differ-small (suc zero) zero h l = omega arith
differ-small (suc zero) (suc zero) h l = omega arith
differ-small (suc (suc x)) y h l = absurd (omega arith)
differ-small zero (suc (suc y)) h l = absurd (omega arith)
differ-small (suc zero) (suc (suc y)) h l = absurd (omega arith)

sum-parity : (p q r s : ℕ) → parity p ≡ parity q → parity r ≡ parity s → parity (p + r) ≡ parity (q + s)
sum-parity p q r s e f = omega (arith, e, f)

differ_within : (d a b : ℕ) → a < 2 ^ d → b < 2 ^ d → parity (ones (bit_xor a b)) ≡ parity (ones a + ones b)
unfolding ones
differ_within zero a b h l =
    let p : a ≡ 0 = omega arith in
    let q : b ≡ 0 = omega arith in
    ap₂ (λ (x y : ℕ). parity (ones (bit_xor x y))) p q ∙ sym (ap₂ (λ (x y : ℕ). parity (ones x + ones y)) p q)
differ_within (suc d) a b h l =
    ap parity (ap ones (xor_step a b) ∙ ones_cat 1 (bit_xor (a / 2) (b / 2)) (differ (a % 2) (b % 2)) (differ-small (a % 2) (b % 2) (mod-lt a (omega arith)) (mod-lt b (omega arith))))
    ∙ sum-parity (ones (bit_xor (a / 2) (b / 2))) (ones (a / 2) + ones (b / 2)) (ones (differ (a % 2) (b % 2))) (a % 2 + b % 2)
    (differ_within d (a / 2) (b / 2) (omega arith) (omega arith)) (digit_differs (a % 2) (b % 2) (mod-lt a (omega arith)) (mod-lt b (omega arith)))
    ∙ ap parity (both (a % 2) (ones (a / 2)) (b % 2) (ones (b / 2)) ∙ sym (ap₂ (λ (x y : ℕ). x + y) (ones_step a) (ones_step b)))
  where
    both : (x p y q : ℕ) → p + q + (x + y) ≡ x + p + (y + q)
    both x p y q = omega arith

pub ones-differ : (d a b : ℕ) → a < 2 ^ d → b < 2 ^ d → parity (length (set_bits (bit_xor a b))) ≡ parity (length (set_bits a) + length (set_bits b))
ones-differ d a b h l =
    ap parity (set_bits_long (bit_xor a b)) ∙ differ_within d a b h l ∙ sym (ap₂ (λ (x y : ℕ). parity (x + y)) (set_bits_long a) (set_bits_long b))
