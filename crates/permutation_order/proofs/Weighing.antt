-- The sum that is the rank, place by place. Assumes nothing.
--   smaller_there    how many of the entries seen are smaller than the next
--   rank_turn, rank_fits    one turn of the sum, and it fits a machine word
--   factorial_turn, factorial_fits    the same for the factorial
use mathlib.Core.Path.{◌≡◌, sym, ap, ap₂, ◌∙◌}
use mathlib.Core.List.{List}
use Prim.Native.Nat.{ℕ, suc, ◌+◌, ◌*◌, ◌^◌, ◌≤◌, ◌<◌}
use native.Mathlib.Nat.{mul_comm}
use native.Mathlib.Numerals.{add-one}
use native.Mathlib.Omega.{arith}
use lib.ListN.{get_or, take}
use Rattle.words.specs.Bits.{bits_of, set_bits}
use Rattle.words.specs.Factorial.{factorial}
use Rattle.words.specs.Inversions.{smaller_in}
use Rattle.words.proofs.Factorial.{factorial_grows}
use Rattle.seen.proofs.Seen.{Apart, apart_front, smaller-seen}
use Rattle.arrangements.specs.Rank.{digit, rank_up_to}
use Rattle.arrangements.proofs.Rank.{rank_below_factorial}
use Rattle.permutation_order.specs.Rules.{longest_numbered}

pub smaller_there : (n : ℕ) (w : List ℕ) (j seen x d : ℕ) → Apart n w → seen ≡ bits_of (take j w) → x ≡ get_or w j 0 → d ≡ smaller_in x (set_bits seen) → d ≡ digit w j
smaller_there n w j seen x d a s e f =
    f ∙ ap (λ (b : ℕ). smaller_in x (set_bits b)) s ∙ smaller-seen x (take j w) (apart_front n j w a).once ∙ ap (λ (y : ℕ). smaller_in y (take j w)) e

pub rank_turn : (w : List ℕ) (j sum d f : ℕ) → sum ≡ rank_up_to w j → d ≡ digit w j → f ≡ factorial j → sum + d * f ≡ rank_up_to w (j + 1)
unfolding rank_up_to
rank_turn w j sum d f p q r = ap₂ (λ (a b : ℕ). a + b) p (ap₂ (λ (a b : ℕ). a * b) q r) ∙ ap (rank_up_to w) (sym (add-one j))

-- 20! is below 2 ^ 64
pub rank_fits : (p : List ℕ) (k : ℕ) → k ≤ longest_numbered → rank_up_to p k < 2 ^ 64
unfolding factorial
rank_fits p k h = omega (arith, rank_below_factorial p k, factorial_grows h)

pub factorial_turn : (j f : ℕ) → f ≡ factorial j → f * (j + 1) ≡ factorial (j + 1)
unfolding factorial
factorial_turn j f e = ap₂ (λ (a b : ℕ). a * b) e (add-one j) ∙ mul_comm (factorial j) (suc j) ∙ ap factorial (sym (add-one j))

pub factorial_fits : (k : ℕ) → k ≤ longest_numbered → factorial k < 2 ^ 64
unfolding factorial
factorial_fits k h = omega (arith, factorial_grows h)
