-- A number has one numeral, so what `put_number` writes and what `read_number` reads are determined. Assumes nothing.
--   value_below, value_above    the number that digits write lies between two multiples of a power of ten
--   numeral_above    a numeral of more than one digit is that of a number of that length at least
--   numeral_within    the numeral of a number below 2 ^ 64 has 20 digits at most
--   longer_is_larger    of two numerals the longer is that of the larger number
--   same_digits    digits of one length that write one number are the same
--   one_numeral    a number has one numeral
use mathlib.Core.Path.{◌≡◌, refl, sym, ap, ap₂, subst, ◌∙◌}
use mathlib.Core.Logic.{⊎_elim}
use mathlib.Core.List.{List, [], ◌∷◌}
use Prim.Native.Nat.{ℕ, suc, ◌+◌, ◌-◌, ◌*◌, ◌^◌, ◌≤◌, ◌<◌, suc-le-suc}
use native.Mathlib.Nat.{le_trans, lt_of_lt_of_le, le_of_suc-le-suc, mul_assoc, mul-le-mul_right, pow-le-pow_right, pow-succ', eq-or-lt_of_le, le_antisymm, lt_of_not-le, lt_irrefl}
use native.Mathlib.Omega.{arith}
use lib.ListN.{length, get_or}
use Rattle.text.specs.Numeral.{IsDigit, value_from, Numeral}

abbrev Digits : List ℕ → Type 0
Digits w = (k : ℕ) → k < length w → IsDigit (get_or w k 0)

tail-digits : (b : ℕ) (w : List ℕ) → Digits (b ∷ w) → Digits w
tail-digits b w d k l = d (suc k) (suc-le-suc l)

first_digit : (b : ℕ) (w : List ℕ) → Digits (b ∷ w) → IsDigit b
first_digit b w d = d 0 (omega arith)

ten_more : (a l : ℕ) → a * 10 ^ suc l ≡ a * 10 * 10 ^ l
ten_more a l = ap (λ (t : ℕ). a * t) (pow-succ' 10 l) ∙ sym (mul_assoc a 10 (10 ^ l))

value_below : (a : ℕ) (w : List ℕ) → Digits w → value_from a w < (a + 1) * 10 ^ length w
unfolding value_from
value_below a [] d = omega arith
value_below a (b ∷ w) d =
    let f = first_digit b w d in
    let m : (a * 10 + (b - 48) + 1) * 10 ^ length w ≤ (a + 1) * 10 * 10 ^ length w = mul-le-mul_right (10 ^ length w) (omega arith) in
    subst (λ (t : ℕ). value_from (a * 10 + (b - 48)) w < t) (sym (ten_more (a + 1) (length w)))
    (lt_of_lt_of_le (value_below (a * 10 + (b - 48)) w (tail-digits b w d)) m)

value_above : (a : ℕ) (w : List ℕ) → a * 10 ^ length w ≤ value_from a w
unfolding value_from
value_above a [] = omega arith
value_above a (b ∷ w) =
    let m : a * 10 * 10 ^ length w ≤ (a * 10 + (b - 48)) * 10 ^ length w = mul-le-mul_right (10 ^ length w) (omega arith) in
    subst (λ (t : ℕ). t ≤ value_from (a * 10 + (b - 48)) w) (sym (ten_more a (length w))) (le_trans m (value_above (a * 10 + (b - 48)) w))

numeral_above : (b : ℕ) (w : List ℕ) (n : ℕ) → Numeral (b ∷ w) n → 0 < length w → 10 ^ length w ≤ n
unfolding value_from
numeral_above b w n q l =
    let f = first_digit b w q.digits in
    let front : 1 ≤ 0 * 10 + (b - 48) = ⊎_elim (λ (e : 48 ≡ b). absurd (q.plain (omega arith) (sym e))) (λ (h : 48 < b). omega arith) (eq-or-lt_of_le f.0) in
    let m : 1 * 10 ^ length w ≤ (0 * 10 + (b - 48)) * 10 ^ length w = mul-le-mul_right (10 ^ length w) front in
    omega (arith, value_above (0 * 10 + (b - 48)) w, m, q.value)

longer_is_larger : (v w : List ℕ) (n m : ℕ) → Numeral v n → Numeral w m → length v < length w → n < m
unfolding value_from
longer_is_larger v [] n m p q l = absurd (omega arith)
longer_is_larger v (b ∷ w) n m p q l =
    let ten : 10 ^ length v ≤ 10 ^ length w = pow-le-pow_right (omega arith) (le_of_suc-le-suc l) in
    omega (arith, value_below 0 v p.digits, numeral_above b w m q (omega (arith, p.some)), ten, p.value)

pub numeral_within : (w : List ℕ) (n : ℕ) → Numeral w n → n < 2 ^ 64 → length w ≤ 20
numeral_within [] n o h = omega arith
numeral_within (b ∷ w) n o h = lt_of_not-le long
  where
    long : 20 ≤ length w → ⊥
    long l =
        let ten : 10 ^ 20 ≤ 10 ^ length w = pow-le-pow_right (omega arith) l in
        omega (arith, numeral_above b w n o (omega arith), ten)

same_digits : (a c : ℕ) (v w : List ℕ) → Digits v → Digits w → length v ≡ length w → value_from a v ≡ value_from c w → (a ≡ c) × (v ≡ w)
unfolding value_from
same_digits a c [] [] d e l h = (h, refl)
same_digits a c [] (y ∷ w) d e l h = absurd (omega arith)
same_digits a c (x ∷ v) [] d e l h = absurd (omega arith)
same_digits a c (x ∷ v) (y ∷ w) d e l h =
    let f = first_digit x v d in
    let g = first_digit y w e in
    let s = same_digits (a * 10 + (x - 48)) (c * 10 + (y - 48)) v w (tail-digits x v d) (tail-digits y w e) (omega arith) h in
    (omega (arith, s.0), ap₂ (λ (b : ℕ) (t : List ℕ). b ∷ t) (omega (arith, s.0)) s.1)

no_longer : (v w : List ℕ) (n : ℕ) → Numeral v n → Numeral w n → length v ≤ length w
no_longer v w n p q = le_of_suc-le-suc (lt_of_not-le (λ l. lt_irrefl n (longer_is_larger w v n n q p l)))

pub one_numeral : (v w : List ℕ) (n : ℕ) → Numeral v n → Numeral w n → v ≡ w
one_numeral v w n p q =
    (same_digits 0 0 v w p.digits q.digits (le_antisymm (no_longer v w n p q) (no_longer w v n q p)) (p.value ∙ sym q.value)).1
