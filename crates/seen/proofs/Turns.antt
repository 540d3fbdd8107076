-- One symbol more is seen, as a loop over the places of a list meets it. Assumes nothing.
--   bits_one_more    the number of the symbols seen
--   one_digit    a single digit, as a program shifts it
--   Turned n w i seen odd    seen is the number of the first i symbols of w, and odd has an odd number of ones exactly if they have an odd number of inversions
--   turned_none, turned-fits, turned-below, turned_more, turned_all    it holds where the loop begins; the next digit is that of one symbol more, and fits; one symbol more; what is known at the end
use mathlib.Core.Path.{◌≡◌, refl, sym, ap, subst, ◌∙◌}
use mathlib.Core.List.{List, [], ◌∷◌, ◌++◌}
use Prim.Native.Nat.{ℕ, ◌+◌, ◌*◌, ◌/◌, ◌%◌, ◌^◌, ◌≤◌, ◌<◌}
use native.Mathlib.Numerals.{add-one}
use native.Mathlib.Nat.{one-mul, lt_of_le_of_lt, div-le_self}
use native.Mathlib.Omega.{arith}
use lib.ListN.{length, get_or, take}
use lib.Seq.{take-suc, take_all}
use lib.Bits.{bit_xor, xor_lt}
use lib.Pow.{pow_pos, shr_le, shl_exact}
use Rattle.words.specs.Bits.{bits_of, ones_from, set_bits}
use Rattle.words.specs.Inversions.{smaller_in, inversions, larger_in, parity}
use Rattle.words.proofs.Inversions.{inversions_append, crossings_with_one}
use Rattle.seen.proofs.Seen.{Apart, apart_front, seen_fits, larger-seen, ones-differ}

bits_append : (u : List ℕ) (x : ℕ) → bits_of (u ++ x ∷ []) ≡ bits_of u + 2 ^ x
unfolding bits_of
bits_append [] x = omega arith
bits_append (y ∷ ys) x = omega (arith, bits_append ys x)

pub bits_one_more : (w : List ℕ) (i : ℕ) → i < length w → bits_of (take (i + 1) w) ≡ bits_of (take i w) + 2 ^ get_or w i 0
bits_one_more w i h = ap (λ (j : ℕ). bits_of (take j w)) (add-one i) ∙ ap bits_of (take-suc w i 0 h) ∙ bits_append (take i w) (get_or w i 0)

inversions_one_more : (w : List ℕ) (i : ℕ) → i < length w → inversions (take (i + 1) w) ≡ inversions (take i w) + larger_in (get_or w i 0) (take i w)
unfolding inversions smaller_in
inversions_one_more w i h =
    ap (λ (j : ℕ). inversions (take j w)) (add-one i) ∙ ap inversions (take-suc w i 0 h)
    ∙ omega (arith, inversions_append (take i w) (get_or w i 0 ∷ []), crossings_with_one (take i w) (get_or w i 0))

pub one_digit : (n s : ℕ) → s < n → 1 * 2 ^ s % 2 ^ n ≡ 2 ^ s
one_digit n s h = shl_exact 1 s n (omega arith) (omega arith) ∙ one-mul (2 ^ s)

one_side : (p q r : ℕ) → parity p ≡ parity q → parity (p + r) ≡ parity (q + r)
one_side p q r e = omega (arith, e)

pub record Turned (n : ℕ) (w : List ℕ) (i seen odd : ℕ) : Type 0 where
  pub digits : seen ≡ bits_of (take i w)
  pub small : odd < 2 ^ n
  pub parities : parity (length (set_bits odd)) ≡ parity (inversions (take i w))

pub turned_none : (n : ℕ) (w : List ℕ) → Turned n w 0 0 0
unfolding bits_of inversions ones_from
turned_none n w = record { digits = refl; small = pow_pos n; parities = refl }

module _ (n : ℕ) (w : List ℕ) (i seen : ℕ) (a : Apart n w) (h : i < length w) where
  pub turned-fits : (x d : ℕ) → seen ≡ bits_of (take i w) → x ≡ get_or w i 0 → d ≡ 2 ^ x → seen + d ≡ bits_of (take (i + 1) w)
  turned-fits x d t e f =
      omega (arith, t, f, ap (λ (y : ℕ). 2 ^ y) e, bits_one_more w i h)

  pub turned-below : (x d : ℕ) → seen ≡ bits_of (take i w) → x ≡ get_or w i 0 → d ≡ 2 ^ x → seen + d < 2 ^ n
  turned-below x d t e f = omega (arith, turned-fits x d t e f, seen_fits n (take (i + 1) w) (apart_front n (i + 1) w a))

  pub turned_more : (odd x d : ℕ) → Turned n w i seen odd → x ≡ get_or w i 0 → d ≡ 2 ^ x → Turned n w (i + 1) (seen + d) (bit_xor odd (seen / 2 ^ x / 2))
  turned_more odd x d t e f =
      record {
        digits = turned-fits x d t.digits e f;
        small = xor_lt n odd (seen / 2 ^ x / 2) t.small above;
        parities =
            ones-differ n odd (seen / 2 ^ x / 2) t.small above
            ∙ ap (λ (m : ℕ). parity (length (set_bits odd) + m)) larger
            ∙ one_side (length (set_bits odd)) (inversions (take i w)) (larger_in (get_or w i 0) (take i w)) t.parities
            ∙ ap parity (sym (inversions_one_more w i h));
      }
    where
      above : seen / 2 ^ x / 2 < 2 ^ n
      above =
          lt_of_le_of_lt (div-le_self (seen / 2 ^ x) 2)
          (lt_of_le_of_lt (shr_le seen x) (subst (λ (s : ℕ). s < 2 ^ n) (sym t.digits) (seen_fits n (take i w) (apart_front n i w a))))

      larger : length (set_bits (seen / 2 ^ x / 2)) ≡ larger_in (get_or w i 0) (take i w)
      larger =
          ap (λ (s : ℕ). length (set_bits (s / 2 ^ x / 2))) t.digits
          ∙ larger-seen x (take i w) (apart_front n i w a).once
          ∙ ap (λ (y : ℕ). larger_in y (take i w)) e

pub turned_all : (n : ℕ) (w : List ℕ) (i seen odd : ℕ) → Turned n w i seen odd → length w ≤ i → parity (length (set_bits odd)) ≡ parity (inversions w)
turned_all n w i seen odd t h = t.parities ∙ ap (λ (u : List ℕ). parity (inversions u)) (take_all i w h)
