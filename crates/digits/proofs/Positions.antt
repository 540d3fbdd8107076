-- The symbols of a digit word are the digits of its rank in equal radices: the loops over the positions. Assumes nothing.
--   writing_turn, writing_ends    the loop that writes the symbols: one symbol, and after the last
--   rising-turn, rising-fits    the loop that makes the number of the symbols: one symbol more, and that the number stays below the count
--   symbol_at    the symbol at a position, by its stride
--   symbols_long    there are as many as the degree says
use mathlib.Core.Path.{◌≡◌, sym, ap₂, subst, ◌∙◌}
use mathlib.Core.List.{List, ◌++◌}
use Prim.Native.Nat.{ℕ, ◌+◌, ◌-◌, ◌*◌, ◌/◌, ◌%◌, ◌^◌, ◌≤◌, ◌<◌}
use native.Mathlib.Omega.{arith}
use lib.ListN.{length, get_or, drop, set, replicate, length-replicate, get_or-replicate}
use Rattle.words.specs.Word.{Below}
use Rattle.positional.specs.Positional.{digits_of}
use Rattle.positional.proofs.Parts.{digits_of_long, digit_is}
use Rattle.positional.proofs.Digits.{number_below}
use Rattle.positional.proofs.Equal.{product-equal, stride-equal, below_is_digits}
use Rattle.cartesian.proofs.Tuples.{Above, above_turn, above_fits}
use Rattle.cartesian.proofs.Writing.{Spelling, spelling_turn, spelling_ends}

pub writing_turn : (n k r : ℕ) (base out : List ℕ) (left i : ℕ) → Spelling (replicate k n) r base out left i → i < k → k ≤ length base
    → Spelling (replicate k n) r base (set out i (left % n)) (left / n) (i + 1)
writing_turn n k r base out left i p h l =
    subst (λ (m : ℕ). Spelling (replicate k n) r base (set out i (left % m)) (left / m) (i + 1)) (get_or-replicate k i n 0 h)
    (spelling_turn (replicate k n) r base out left i p (omega (arith, length-replicate k n)) (omega (arith, length-replicate k n)))

pub writing_ends : (n k r : ℕ) (base out : List ℕ) (left i : ℕ) → Spelling (replicate k n) r base out left i → k ≤ i → k ≤ length base
    → out ≡ digits_of (replicate k n) r ++ drop (length (digits_of (replicate k n) r)) base
writing_ends n k r base out left i p h l =
    spelling_ends (replicate k n) r base out left i p (omega (arith, length-replicate k n)) (omega (arith, length-replicate k n))

pub symbol_at : (n k r p s : ℕ) → p < k → s ≡ n ^ p → r / s % n ≡ get_or (digits_of (replicate k n) r) p 0
symbol_at n k r p s h e =
    ap₂ (λ (a b : ℕ). r / a % b) (e ∙ sym (stride-equal n k p (omega arith))) (sym (get_or-replicate k p n 0 h))
    ∙ sym (digit_is (replicate k n) r p (omega (arith, length-replicate k n)))

pub symbols_long : (n k r : ℕ) → length (digits_of (replicate k n) r) ≡ k
symbols_long n k r = digits_of_long (replicate k n) r ∙ length-replicate k n

-- ---- the number of the symbols, from the highest position down

module _ (n : ℕ) (w : List ℕ) (above i : ℕ) (b : Below n w) (p : Above (replicate (length w) n) w above i) (some : 0 < i) where
  pub rising-turn : Above (replicate (length w) n) w (above * n + get_or w (i - 1) 0) (i - 1)
  rising-turn =
      subst (λ (m : ℕ). Above (replicate (length w) n) w (above * m + get_or w (i - 1) 0) (i - 1))
      (get_or-replicate (length w) (i - 1) n 0 (omega (arith, p.axes, length-replicate (length w) n)))
      (above_turn (replicate (length w) n) w above i ((below_is_digits n w).0 b) p some)

  pub rising-fits : above * n + get_or w (i - 1) 0 < n ^ length w
  rising-fits =
      omega (
        arith,
        above_fits (replicate (length w) n) w (above * n + get_or w (i - 1) 0) (i - 1) ((below_is_digits n w).0 b) rising-turn,
        number_below (replicate (length w) n) w ((below_is_digits n w).0 b),
        product-equal n (length w),
      )
