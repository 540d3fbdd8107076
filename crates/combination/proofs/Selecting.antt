-- The loop that selects symbols by their positions: the lowest symbol and the lowest position of what is left go together. Assumes nothing.
--   symbols_at_step    the symbols at the positions w of s and xs: s if the lowest digit of w is 1, and those of xs at the other positions
--   Selecting a ps left wanted chosen    the symbols chosen, and those still wanted of what is left, are the symbols at the positions ps
--   selecting_starts, selecting-ends    before the first symbol, and after the last position
--   rest-within, rest-shorter    without its lowest symbol, what is left is a smaller number, and has fewer symbols
--   selecting-turn, selecting-skips    a symbol that is wanted, and one that is not
use mathlib.Core.Path.{◌≡◌, refl, sym, ap, ap₂, subst, ◌∙◌}
use mathlib.Core.Bool.{false}
use mathlib.Core.List.{List, [], ◌∷◌, ◌++◌}
use Prim.Native.Nat.{ℕ, zero, suc, ◌+◌, ◌-◌, ◌*◌, ◌/◌, ◌%◌, ◌^◌, ◌≤◌, ◌<◌}
use native.Mathlib.Nat.{mod-lt}
use native.Mathlib.Numerals.{add-one}
use native.Mathlib.Omega.{arith}
use lib.ListN.{length, get_or, drop}
use Rattle.words.specs.Bits.{bits_of, ones_from, set_bits}
use Rattle.words.proofs.Bits.{bits_fit, bits_of_set, set-bits-monotone}
use Rattle.words.proofs.Digits.{set-bits-zero}
use Rattle.words.proofs.SetLaws.{raised, set-bits-split}
use Rattle.bits.specs.Member.{reaches}
use Rattle.bits.proofs.Member.{reaches_not}
use Rattle.combination.specs.Rules.{symbols_at}

-- ---- the symbols at positions

at_raised : (ps : List ℕ) (s : ℕ) (xs : List ℕ) → symbols_at (raised 1 ps) (s ∷ xs) ≡ symbols_at ps xs
at_raised [] s xs = refl
at_raised (p ∷ ps) s xs = ap₂ ◌∷◌ (ap (λ (i : ℕ). get_or (s ∷ xs) i 0) (add-one p)) (at_raised ps s xs)

pub symbols_at_step : (w s : ℕ) (xs : List ℕ) → bits_of (symbols_at (set_bits w) (s ∷ xs)) ≡ w % 2 * 2 ^ s + bits_of (symbols_at (set_bits (w / 2)) xs)
unfolding ones_from bits_of
symbols_at_step w s xs = ap (λ (l : List ℕ). bits_of (symbols_at l (s ∷ xs))) (set-bits-split 1 w) ∙ go (w % 2) (mod-lt w (omega arith))
  where
    others : bits_of (symbols_at (raised 1 (set_bits (w / 2))) (s ∷ xs)) ≡ bits_of (symbols_at (set_bits (w / 2)) xs)
    others = ap bits_of (at_raised (set_bits (w / 2)) s xs)

    go : (d : ℕ) → d < 2 → bits_of (symbols_at (set_bits d ++ raised 1 (set_bits (w / 2))) (s ∷ xs)) ≡ d * 2 ^ s + bits_of (symbols_at (set_bits (w / 2)) xs)
    go zero h = omega (arith, others)
    go (suc zero) h = omega (arith, others)
    go (suc (suc d)) h = absurd (omega arith)

-- ---- the loop

pub record Selecting (a ps left wanted chosen : ℕ) : Type 0 where
  pub total : chosen + bits_of (symbols_at (set_bits wanted) (set_bits left)) ≡ bits_of (symbols_at (set_bits ps) (set_bits a))
  pub short : wanted < 2 ^ length (set_bits left)
  pub room : chosen + left ≤ a

pub selecting_starts : (a ps : ℕ) → reaches (length (set_bits a)) (set_bits ps) ≡ false → Selecting a ps a ps 0
selecting_starts a ps e =
    record {
      total = omega arith;
      short = subst (λ (b : ℕ). b < 2 ^ length (set_bits a)) (bits_of_set ps) (bits_fit (length (set_bits a)) (set_bits ps) (set-bits-monotone ps) ((reaches_not (length (set_bits a)) (set_bits ps)).0 e));
      room = omega arith;
    }

module _ {a ps left wanted chosen : ℕ} (p : Selecting a ps left wanted chosen) where
  module _ (rest : ℕ) (some : 0 < wanted) (e : set_bits rest ≡ drop 1 (set_bits left)) where
    lowest : (s : ℕ) × (set_bits left ≡ s ∷ set_bits rest) × (left ≡ 2 ^ s + rest)
    unfolding bits_of
    lowest = go (set_bits left) refl
      where
        go : (w : List ℕ) → set_bits left ≡ w → (s : ℕ) × (set_bits left ≡ s ∷ set_bits rest) × (left ≡ 2 ^ s + rest)
        go [] f = absurd (omega (arith, some, p.short, ap (λ (w : List ℕ). 2 ^ length w) f))
        go (s ∷ xs) f =
            let g : set_bits rest ≡ xs = e ∙ ap (drop 1) f in
            (s, f ∙ ap (λ (w : List ℕ). s ∷ w) (sym g), omega (arith, bits_of_set left, bits_of_set rest, ap bits_of f, ap bits_of g))

    pub rest-within : rest ≤ left
    rest-within = omega (arith, lowest.2)

    pub rest-shorter : length (set_bits rest) < length (set_bits left)
    rest-shorter = omega (arith, ap length lowest.1)

    -- the symbols wanted of what is left, and of the rest
    step : bits_of (symbols_at (set_bits wanted) (set_bits left)) ≡ wanted % 2 * 2 ^ lowest.0 + bits_of (symbols_at (set_bits (wanted / 2)) (set_bits rest))
    step = ap (λ (w : List ℕ). bits_of (symbols_at (set_bits wanted) w)) lowest.1 ∙ symbols_at_step wanted lowest.0 (set_bits rest)

    half : wanted / 2 < 2 ^ length (set_bits rest)
    half = let l : 2 ^ length (set_bits left) ≡ 2 ^ suc (length (set_bits rest)) = ap (λ (w : List ℕ). 2 ^ length w) lowest.1 in omega (arith, p.short)

    pub selecting-turn : wanted % 2 ≡ 1 → Selecting a ps rest (wanted / 2) (chosen + (left - rest))
    selecting-turn h =
        record {
          total = omega (arith, p.total, step, lowest.2, ap (λ (d : ℕ). d * 2 ^ lowest.0) h);
          short = half;
          room = omega (arith, p.room, lowest.2);
        }

    pub selecting-skips : (wanted % 2 ≡ 1 → ⊥) → Selecting a ps rest (wanted / 2) chosen
    selecting-skips h =
        let z : wanted % 2 ≡ 0 = omega arith in
        record {
          total = omega (arith, p.total, step, ap (λ (d : ℕ). d * 2 ^ lowest.0) z);
          short = half;
          room = omega (arith, p.room, lowest.2);
        }

  pub selecting-ends : wanted ≡ 0 → chosen ≡ bits_of (symbols_at (set_bits ps) (set_bits a))
  unfolding bits_of
  selecting-ends z =
      let n : bits_of (symbols_at (set_bits wanted) (set_bits left)) ≡ 0 = ap (λ (w : List ℕ). bits_of (symbols_at w (set_bits left))) (ap set_bits z ∙ set-bits-zero) in
      omega (arith, p.total, n)
