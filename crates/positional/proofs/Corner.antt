-- Corners: a set of positions, as a number, chooses the strides that are summed. Assumes nothing.
--   corner_turn    the lowest position, and then the corner of the others in the shape without it
--   corner_none    no position: 0
--   corner_is_number    the corner is the number whose digits are the binary digits of the set
use mathlib.Core.Path.{◌≡◌, refl, ap, ap₂, ◌∙◌}
use mathlib.Core.List.{List, [], ◌∷◌, ◌++◌, map}
use Prim.Native.Nat.{ℕ, zero, suc, ◌+◌, ◌*◌, ◌/◌, ◌%◌, ◌^◌, ◌<◌}
use native.Mathlib.Numerals.{add-one}
use native.Mathlib.Omega.{arith}
use lib.ListN.{length, replicate}
use Rattle.words.specs.Bits.{set_bits, ones_from}
use Rattle.words.proofs.Digits.{set-bits-halves}
use Rattle.positional.specs.Positional.{product, stride, corner_of, positional_value, digits_of}

corner_append : (rs u v : List ℕ) → corner_of rs (u ++ v) ≡ corner_of rs u + corner_of rs v
unfolding corner_of
corner_append rs [] v = omega arith
corner_append rs (a ∷ u) v = omega (arith, corner_append rs u v)

-- each position raised by one, in a shape with one radix more below
corner_raised : (r : ℕ) (rs w : List ℕ) → corner_of (r ∷ rs) (map (λ x. x + 1) w) ≡ r * corner_of rs w
unfolding corner_of product
corner_raised r rs [] = omega arith
corner_raised r rs (a ∷ w) = omega (arith, ap (stride (r ∷ rs)) (add-one a), corner_raised r rs w)

-- the lowest digit
corner_lowest : (rs : List ℕ) (b : ℕ) → b < 2 → corner_of rs (set_bits b) ≡ b
unfolding corner_of product ones_from
corner_lowest rs zero h = refl
corner_lowest rs (suc zero) h = refl
corner_lowest rs (suc (suc b)) h = absurd (omega arith)

pub corner_turn : (r : ℕ) (rs : List ℕ) (a : ℕ) → corner_of (r ∷ rs) (set_bits a) ≡ a % 2 + r * corner_of rs (set_bits (a / 2))
corner_turn r rs a =
    let e : a ≡ a / 2 * 2 ^ 1 + a % 2 = omega arith in
    ap (λ (b : ℕ). corner_of (r ∷ rs) (set_bits b)) e
    ∙ ap (corner_of (r ∷ rs)) (set-bits-halves 1 (a / 2) (a % 2) (omega arith))
    ∙ corner_append (r ∷ rs) (set_bits (a % 2)) (map (λ x. x + 1) (set_bits (a / 2)))
    ∙ ap₂ ◌+◌ (corner_lowest (r ∷ rs) (a % 2) (omega arith)) (corner_raised r rs (set_bits (a / 2)))

pub corner_none : (rs : List ℕ) → corner_of rs (set_bits 0) ≡ 0
corner_none rs = corner_lowest rs 0 (omega arith)

pub corner_is_number : (rs : List ℕ) (a : ℕ) → a < 2 ^ length rs → corner_of rs (set_bits a) ≡ positional_value rs (digits_of (replicate (length rs) 2) a)
unfolding positional_value digits_of
corner_is_number [] a h =
    let e : a ≡ 0 = omega arith in
    ap (λ (b : ℕ). corner_of [] (set_bits b)) e ∙ corner_none []
corner_is_number (r ∷ rs) a h =
    let l : a < 2 ^ suc (length rs) = h in
    corner_turn r rs a ∙ ap (λ (n : ℕ). a % 2 + r * n) (corner_is_number rs (a / 2) (omega arith))
