-- What the evaluation of a surface keeps. Assumes nothing.
--   highest_degree l t    the highest degree among the first t rows of an image
--   from_row row k j    the monomial of rank j among the terms of degree k stands at k - j
--   Scaled n t before after    the first n numbers of a row times t, rounded, and the others as before
use Rattle.std.specs.Prelude.{List, ◌≡◌, ℕ, zero, suc, ◌-◌, ◌≤◌, ◌<◌, max, length, get_or, Float}
use Rattle.std.specs.Float.{nan, binary64}
use Rattle.std.specs.Float.Ieee.{mul}
use Rattle.image_rules.specs.Image.{degree_at}

unfoldable pub highest_degree : List ℕ → ℕ → ℕ
highest_degree l zero = 0
highest_degree l (suc i) = max (highest_degree l i) (degree_at l i)

abbrev pub from_row : List Float → ℕ → ℕ → Float
from_row row k j = get_or row (k - j) nan

pub record Scaled (n : ℕ) (t : Float) (before after : List Float) : Type 0 where
  pub long : length after ≡ length before
  pub scaled : (a : ℕ) → a < n → get_or after a nan ≡ mul binary64 (get_or before a nan) t
  pub kept : (a : ℕ) → n ≤ a → get_or after a nan ≡ get_or before a nan
