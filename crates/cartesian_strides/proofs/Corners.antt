-- The offset of a corner, as a loop over the axes sums it. Assumes nothing.
--   Summing rs axes sum st left i    sum has the strides of the chosen axes below i, st is the stride at i, and left has the axes from i up
--   summing_starts, summing_turn, summing_ends    before the first axis, one axis more, and after the last
--   axis_chosen, axis_left_out    what an axis adds to the sum
use mathlib.Core.Path.{◌≡◌, refl, sym, ap, subst, ◌∙◌}
use mathlib.Core.List.{List}
use Prim.Native.Nat.{ℕ, zero, suc, ◌+◌, ◌*◌, ◌/◌, ◌%◌, ◌^◌, ◌<◌, ◌≤◌, zero-le}
use native.Mathlib.Nat.{div-one, div-div-eq-div-mul, add-zero, one-mul, zero-mul, pow-suc}
use native.Mathlib.Numerals.{add-one}
use native.Mathlib.Omega.{arith}
use lib.ListN.{length, get_or, drop}
use lib.Seq.{drop-cons}
use Rattle.words.specs.Bits.{set_bits}
use Rattle.positional.specs.Positional.{product, stride, corner_of}
use Rattle.positional.proofs.Strides.{stride_next}
use Rattle.positional.proofs.Corner.{corner_turn, corner_none}
use Rattle.answers.specs.Says.{Says, gives}
use Rattle.cartesian.specs.Checks.{number_says}
use Rattle.cartesian.proofs.Fits.{fits_small}

pub record Summing (rs : List ℕ) (axes : ℕ) (sum st : Says ℕ) (left i : ℕ) : Type 0 where
  pub within : i ≤ length rs
  pub part : ℕ
  pub summed : sum ≡ number_says part
  pub grown : st ≡ number_says (stride rs i)
  pub rest : left ≡ axes / 2 ^ i
  pub whole : part + stride rs i * corner_of (drop i rs) (set_bits left) ≡ corner_of rs (set_bits axes)

pub summing_starts : (rs : List ℕ) (axes : ℕ) → Summing rs axes (gives 0) (gives 1) axes 0
unfolding product
summing_starts rs axes =
    record {
      within = zero-le;
      part = 0;
      summed = sym (fits_small 0 (omega arith));
      grown = sym (fits_small 1 (omega arith));
      rest = sym (div-one axes);
      whole = omega arith;
    }

pub summing_turn : (rs : List ℕ) (axes : ℕ) (sum st sum' st' : Says ℕ) (left i : ℕ) → Summing rs axes sum st left i → i < length rs
    → ((m : ℕ) → sum ≡ number_says m → sum' ≡ number_says (m + left % 2 * stride rs i))
    → ((m : ℕ) → st ≡ number_says m → st' ≡ number_says (m * get_or rs i 0))
    → Summing rs axes sum' st' (left / 2) (i + 1)
summing_turn rs axes sum st sum' st' left i k h f g = subst (Summing rs axes sum' st' (left / 2)) (sym (add-one i)) next
  where
    turn : corner_of (drop i rs) (set_bits left) ≡ left % 2 + get_or rs i 0 * corner_of (drop (suc i) rs) (set_bits (left / 2))
    turn = ap (λ (l : List ℕ). corner_of l (set_bits left)) (drop-cons rs i 0 h) ∙ corner_turn (get_or rs i 0) (drop (suc i) rs) left

    next : Summing rs axes sum' st' (left / 2) (suc i)
    next =
        record {
          within = h;
          part = k.part + left % 2 * stride rs i;
          summed = f k.part k.summed;
          grown = g (stride rs i) k.grown ∙ ap number_says (sym (stride_next rs i h));
          rest = ap (λ (x : ℕ). x / 2) k.rest ∙ div-div-eq-div-mul axes (2 ^ i) 2 ∙ ap (λ (x : ℕ). axes / x) (sym (pow-suc 2 i));
          whole = omega (
            arith,
            k.whole,
            ap (λ (x : ℕ). stride rs i * x) turn,
            ap (λ (x : ℕ). x * corner_of (drop (suc i) rs) (set_bits (left / 2))) (stride_next rs i h),
          );
        }

-- an axis that is chosen, and one that is not: a is what is left of the set, s the stride and m the sum so far
pub axis_chosen : (a m s : ℕ) → a % 2 ≡ 1 → number_says (m + s) ≡ number_says (m + a % 2 * s)
axis_chosen a m s e = ap (λ (n : ℕ). number_says (m + n)) (sym (ap (λ (d : ℕ). d * s) e ∙ one-mul s))

pub axis_left_out : (a m s : ℕ) → (a % 2 ≡ 1 → ⊥) → number_says m ≡ number_says (m + a % 2 * s)
axis_left_out a m s h = go (a % 2) refl
  where
    go : (d : ℕ) → a % 2 ≡ d → number_says m ≡ number_says (m + d * s)
    go zero e = ap number_says (sym (ap (λ (n : ℕ). m + n) (zero-mul s) ∙ add-zero m))
    go (suc zero) e = absurd (h e)
    go (suc (suc d)) e = absurd (omega arith)

pub summing_ends : (rs : List ℕ) (axes : ℕ) (sum st : Says ℕ) (left i : ℕ) → Summing rs axes sum st left i → length rs ≤ i → axes / 2 ^ length rs ≡ 0
    → sum ≡ number_says (corner_of rs (set_bits axes))
summing_ends rs axes sum st left i k h e =
    let p : i ≡ length rs = omega (arith, k.within) in
    let z : left ≡ 0 = k.rest ∙ ap (λ (j : ℕ). axes / 2 ^ j) p ∙ e in
    let o : corner_of (drop i rs) (set_bits left) ≡ 0 = ap (λ (a : ℕ). corner_of (drop i rs) (set_bits a)) z ∙ corner_none (drop i rs) in
    let q : k.part ≡ corner_of rs (set_bits axes) = omega (arith, k.whole, ap (λ (x : ℕ). stride rs i * x) o) in
    k.summed ∙ ap number_says q
