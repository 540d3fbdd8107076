-- The number that digits write, read from the front and written from the back. Assumes nothing.
--   value_grows    further digits make the number no smaller
--   value_step    reading one more digit of a word
--   Spelled rest t n    t writes the last digits of n, and rest is the number that the digits before them write
--   spelled_first, spelled_more    the last digit, and one more in front of others
--   spelled_all    with no digit left, t is the numeral of n
--   room_for_digit    a number below 10 ^ i leaves a number below 10 ^ (i - 1) after its last digit
--   set_front    a text from the place of a store on
use mathlib.Core.Path.{◌≡◌, sym, ap, ap₂, subst, ◌∙◌}
use mathlib.Core.List.{List, [], ◌∷◌}
use Prim.Native.Nat.{ℕ, zero, suc, ◌+◌, ◌-◌, ◌*◌, ◌/◌, ◌%◌, ◌^◌, ◌≤◌, ◌<◌}
use native.Mathlib.Nat.{le_refl, le_trans, le_of_suc-le-suc, pow-succ'}
use native.Mathlib.Numerals.{add-one}
use native.Mathlib.Omega.{arith}
use lib.ListN.{length, get_or, drop, set, length-set}
use lib.Seq.{drop-cons, drop-set-lt, get_or-set_same}
use Rattle.text.specs.Numeral.{IsDigit, value_from, Numeral}

pub value_grows : (v : ℕ) (w : List ℕ) → v ≤ value_from v w
unfolding value_from
value_grows v [] = le_refl v
value_grows v (b ∷ w) =
    let h : v ≤ v * 10 + (b - 48) = omega arith in
    le_trans h (value_grows (v * 10 + (b - 48)) w)

pub value_step : (v : ℕ) (w : List ℕ) (i : ℕ) → i < length w → value_from v (drop i w) ≡ value_from (v * 10 + (get_or w i 0 - 48)) (drop (i + 1) w)
unfolding value_from
value_step v w i h =
    ap (value_from v) (drop-cons w i 0 h) ∙ ap (λ (k : ℕ). value_from (v * 10 + (get_or w i 0 - 48)) (drop k w)) (sym (add-one i))

pub record Spelled (rest : ℕ) (t : List ℕ) (n : ℕ) : Type 0 where
  pub some : 0 < length t
  pub digits : (k : ℕ) → k < length t → IsDigit (get_or t k 0)
  pub plain : rest ≡ 0 → 1 < length t → get_or t 0 0 ≡ 48 → ⊥
  pub value : value_from rest t ≡ n

digit_of : (n : ℕ) → IsDigit (48 + n % 10)
digit_of n = (omega arith, omega arith)

value-digit : (n : ℕ) (t : List ℕ) → value_from (n / 10) ((48 + n % 10) ∷ t) ≡ value_from n t
unfolding value_from
value-digit n t =
    let e : n / 10 * 10 + (48 + n % 10 - 48) ≡ n = omega arith in
    ap (λ (v : ℕ). value_from v t) e

pub spelled_first : (n : ℕ) → Spelled (n / 10) ((48 + n % 10) ∷ []) n
unfolding value_from
spelled_first n = record { some = omega arith; digits = first; plain = λ e l. absurd (omega arith); value = value-digit n [] }
  where
    first : (k : ℕ) → k < 1 → IsDigit (get_or ((48 + n % 10) ∷ []) k 0)
    first zero l = digit_of n
    first (suc k) l = absurd (omega arith)

pub spelled_more : (rest : ℕ) (t : List ℕ) (n : ℕ) → 0 < rest → Spelled rest t n → Spelled (rest / 10) ((48 + rest % 10) ∷ t) n
spelled_more rest t n p o = record { some = omega arith; digits = each; plain = λ e l h. omega arith; value = value-digit rest t ∙ o.value }
  where
    each : (k : ℕ) → k < suc (length t) → IsDigit (get_or ((48 + rest % 10) ∷ t) k 0)
    each zero l = digit_of rest
    each (suc k) l = o.digits k (le_of_suc-le-suc l)

pub spelled_all : (t : List ℕ) (rest n : ℕ) → rest ≡ 0 → Spelled rest t n → Numeral t n
spelled_all t rest n e o = record { some = o.some; digits = o.digits; plain = o.plain e; value = ap (λ (v : ℕ). value_from v t) (sym e) ∙ o.value }

pub room_for_digit : (rest i : ℕ) → 0 < i → rest < 10 ^ i → rest / 10 < 10 ^ (i - 1)
room_for_digit rest zero p h = absurd (omega arith)
room_for_digit rest (suc i) p h =
    let e : suc i - 1 ≡ i = omega arith in
    subst (λ (j : ℕ). rest / 10 < 10 ^ j) (sym e) (omega (arith, pow-succ' 10 i))

pub set_front : (l : List ℕ) (i v : ℕ) → i < length l → drop i (set l i v) ≡ v ∷ drop (suc i) l
set_front l i v h =
    drop-cons (set l i v) i 0 (subst (λ (n : ℕ). i < n) (sym (length-set l i v)) h)
    ∙ ap₂ (λ (x : ℕ) (xs : List ℕ). x ∷ xs) (get_or-set_same l i v 0 h) (drop-set-lt (suc i) l i v (le_refl (suc i)))
