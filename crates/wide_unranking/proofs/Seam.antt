-- The walk of `wide_unranking::word` down to the seam at w. Assumes nothing.
--   Above w v k r n s i left high    the walk over numbers below v, of which high has those from w up; no weight on the way has more than 64 digits
--   above_starts    where it begins
--   weight-fits, has-place    the next weight has 64 digits, and is passed where no position is left
--   above_taken, above_passed    a turn of the walk
--   high_fits, one_shl    a digit of the high half
--   low_fits, above_ends    at the seam what is left is a rank below w, and the two halves are the set
use mathlib.Core.Path.{◌≡◌, refl, sym, ap, ap₂, subst, ◌∙◌}
use mathlib.Core.List.{List, [], ◌∷◌, ◌++◌}
use Prim.Native.Nat.{ℕ, zero, suc, ◌+◌, ◌-◌, ◌*◌, ◌%◌, ◌^◌, ◌≤◌, ◌<◌}
use native.Mathlib.Nat.{le_refl, lt_of_lt_of_le, one-mul, lt_of_mul-lt-mul_right}
use native.Mathlib.Omega.{arith}
use lib.Pow.{pow_pos, pow-add, shl_exact}
use Rattle.words.specs.declared.Family.{Family}
use Rattle.words.specs.declared.Family.TheVariants.{Forbidden}
use Rattle.pascal.specs.Choose.{choose}
use Rattle.pascal.specs.Row.{entry}
use Rattle.words.specs.Unrank.{fill, unrank_of}
use Rattle.words.specs.Bits.{bits_of, ones_from, set_bits}
use Rattle.pascal.proofs.Choose.{choose_none, pascal, choose_grows}
use Rattle.pascal.proofs.Row.{entry_is_choose}
use Rattle.words.proofs.Unrank.{unrank_monotone}
use Rattle.words.proofs.Bits.{bits_of_set, set_of_bits}
use Rattle.words.proofs.Digits.{set-bits-halves, set-bits-zero}
use Rattle.words.proofs.SetLaws.{raised}
use Rattle.wide_unranking.proofs.Descent.{Descent, descent_takes, descent_passes}
use Rattle.seam.specs.Joined.{joined}

-- ---- what is found stays above what is still to be found

fill_append : (F : Family) (k r : ℕ) (u v : List ℕ) → fill F k r (u ++ v) ≡ fill F k r u ++ v
unfolding fill
fill_append F zero r u v = refl
fill_append F (suc k) r u v = fill_append F k _ (_ ∷ u) v

pub record Above (w v k r s i left high : ℕ) : Type 0 where
  pub held : choose s i < 2 ^ 64
  pub walk : Descent v k r s i left (joined w 0 high)

pub above_starts : (w v n k r : ℕ) → n ≤ v → r < choose n k → choose n k < 2 ^ 64 → Above w v k r n k r 0
unfolding ones_from
above_starts w v n k r l h f =
    let z : joined w 0 0 ≡ 0 = omega arith in
    record { held = f; walk = subst (λ (a : ℕ). Descent v k r n k r a) (sym z) (record { low = l; fits = h; above = tt; small = pow_pos v; goal = refl }) }

pub next_held : (s i : ℕ) → 0 < s → choose s i < 2 ^ 64 → choose (s - 1) i < 2 ^ 64
next_held s i p h = omega (arith, choose_grows i {n = s - 1} {m = s} (omega arith))

pub has-place : (w v k r s i left high c : ℕ) → Above w v k r s i left high → c ≡ choose (s - 1) i → c ≤ left → 0 < i
has-place w v k r s zero left high c o e h = absurd (omega (arith, o.walk.fits, choose_none s, choose_none (s - 1)))
has-place w v k r s (suc i) left high c o e h = omega arith

-- a digit of the high half
joined_bit : (w s high : ℕ) → w ≤ s → joined w 0 (high + 2 ^ (s - w)) ≡ joined w 0 high + 2 ^ s
joined_bit w s high l =
    let e : (s - w) + w ≡ s = omega arith in
    omega (arith, pow-add 2 (s - w) w, ap (λ (i : ℕ). 2 ^ i) e)

above_take : (w v k r s i left high : ℕ) → w ≤ s → Above w v k r (suc s) (suc i) left high → choose s (suc i) ≤ left
    → Above w v k r s i (left - choose s (suc i)) (high + 2 ^ (s - w))
above_take w v k r s i left high l o h =
    record {
      held = omega (arith, o.held, pascal s i);
      walk = subst (λ (a : ℕ). Descent v k r s i (left - choose s (suc i)) a) (sym (joined_bit w s high l)) (descent_takes v k r s i left (joined w 0 high) o.walk h);
    }

-- ---- a turn of the walk, in the words of the code

pub above_taken : (w v k r s i left high c b : ℕ) → w < s → 0 < i → Above w v k r s i left high → c ≡ choose (s - 1) i → c ≤ left → b ≡ 2 ^ (s - 1 - w)
    → Above w v k r (s - 1) (i - 1) (left - c) (high + b)
above_taken w v k r zero i left high c b l p o e h f = absurd (omega arith)
above_taken w v k r (suc s) zero left high c b l p o e h f = absurd (omega arith)
above_taken w v k r (suc s) (suc i) left high c b l p o e h f =
    let m : suc s - 1 ≡ s = omega arith in
    let j : suc i - 1 ≡ i = omega arith in
    let x : c ≡ choose s (suc i) = rw m at e in
    let y : b ≡ 2 ^ (s - w) = rw m at f in
    rw (m, j, x, y) (above_take w v k r s i left high (omega arith) o (rw x at h))

pub above_passed : (w v k r s i left high c : ℕ) → w < s → Above w v k r s i left high → c ≡ choose (s - 1) i → left < c → Above w v k r (s - 1) i left high
above_passed w v k r s i left high c l o e h =
    record { held = next_held s i (omega arith) o.held; walk = descent_passes o.walk (e ∙ sym (entry_is_choose (s - 1) i)) h }

-- ---- at the seam

pub low_fits : (w v k r s i left high : ℕ) → s ≤ w → Above w v k r s i left high → left < entry w i
low_fits w v k r s i left high l o = subst (λ (x : ℕ). left < x) (sym (entry_is_choose w i)) (lt_of_lt_of_le o.walk.fits (choose_grows i l))

pub above_ends : (w v k r s i left high low : ℕ) → Above w v k r s i left high → low ≡ bits_of (unrank_of Forbidden i left) → low < 2 ^ w
    → joined w low high ≡ bits_of (unrank_of Forbidden k r)
above_ends w v k r s i left high low o e f =
    let u : set_bits low ≡ unrank_of Forbidden i left = ap set_bits e ∙ set_of_bits (unrank_of Forbidden i left) (unrank_monotone Forbidden i left) in
    let h : set_bits (joined w 0 high) ≡ raised w (set_bits high) = set-bits-halves w high 0 (pow_pos w) ∙ ap (λ (x : List ℕ). x ++ raised w (set_bits high)) set-bits-zero in
    let g : set_bits (joined w low high) ≡ unrank_of Forbidden k r =
    set-bits-halves w high low f ∙ ap₂ (λ (x y : List ℕ). x ++ y) u (sym h) ∙ sym (fill_append Forbidden i left [] (set_bits (joined w 0 high))) ∙ o.walk.goal in
    sym (bits_of_set (joined w low high)) ∙ ap bits_of g

-- ---- the high half has u digits where the walk is over u + w numbers

pub high_fits : (w u k r s i left high : ℕ) → Above w (u + w) k r s i left high → high < 2 ^ u
high_fits w u k r s i left high o =
    lt_of_mul-lt-mul_right (2 ^ w) (omega (arith, o.walk.small, pow-add 2 u w))

pub one_shl : (w s : ℕ) → s < w → 1 * 2 ^ s % 2 ^ w ≡ 2 ^ s
one_shl w s h = shl_exact {a = 1} 1 s w (le_refl 2) (omega arith) ∙ one-mul (2 ^ s)
