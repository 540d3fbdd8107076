-- Vectors worked through, each of which tells one slip in the sequence of operations (02, section 3; docs/DECISIONS.md). Assumes nothing.
--   vectors_hold    the bits of five masses: a fused step, degrees falling, the coefficient multiplied in first, symbols falling and powers multiplied would each change the last digit
use mathlib.Core.List.{List, [], ◌∷◌}
use mathlib.Core.Path.{◌≡◌, refl}
use Prim.Native.Nat.{ℕ}
use lib.Ieee.{binary64, of_bits, to_bits, add, mul}
use Rattle.pascal.specs.Choose.{choose}
use Rattle.words.specs.Unrank.{greatest, fill}
use Rattle.surface.specs.Mass.{mass_of, times_each, add_terms, add_degrees}

-- the bits of the mass, the readings given by theirs
abbrev bits_at : ℕ → ℕ → List (List ℕ) → ℕ
bits_at p t ts = to_bits binary64 (mass_of (of_bits binary64 p) (of_bits binary64 t) ts)

-- 0.1, 0.2, 0.3, 0.7, 1/3, 1.0 and 1.3
abbrev tenth : ℕ
tenth = 0x3fb999999999999a

abbrev fifth : ℕ
fifth = 0x3fc999999999999a

abbrev three_tenths : ℕ
three_tenths = 0x3fd3333333333333

abbrev seven_tenths : ℕ
seven_tenths = 0x3fe6666666666666

abbrev third : ℕ
third = 0x3fd5555555555555

abbrev unit : ℕ
unit = 0x3ff0000000000000

abbrev thirteen_tenths : ℕ
thirteen_tenths = 0x3ff4cccccccccccd

pub record Vectors : Type 0 where
  pub fused : bits_at thirteen_tenths tenth ((unit ∷ []) ∷ (tenth ∷ 0 ∷ []) ∷ []) ≡ 0x3ff2147ae147ae14
  pub degrees_falling : bits_at tenth seven_tenths ((tenth ∷ []) ∷ (fifth ∷ three_tenths ∷ []) ∷ []) ≡ 0x3fd51eb851eb851f
  pub coefficient_first : bits_at third tenth ([] ∷ [] ∷ (tenth ∷ 0 ∷ 0 ∷ []) ∷ []) ≡ 0x3f86c16c16c16c17
  pub symbols_falling : bits_at tenth thirteen_tenths ([] ∷ [] ∷ [] ∷ (0 ∷ tenth ∷ fifth ∷ 0 ∷ []) ∷ []) ≡ 0x3fa1f8a0902de00e
  pub powers_multiplied : bits_at tenth seven_tenths ([] ∷ [] ∷ [] ∷ [] ∷ (0 ∷ tenth ∷ fifth ∷ three_tenths ∷ 0 ∷ []) ∷ []) ≡ 0x3f87396d0917d6b6

pub vectors_hold : Vectors
unfolding to_bits of_bits add mul times_each add_terms add_degrees fill greatest choose
vectors_hold = record { fused = refl; degrees_falling = refl; coefficient_first = refl; symbols_falling = refl; powers_multiplied = refl }
