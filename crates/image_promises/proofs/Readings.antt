-- How the rules of an image are read where two of them meet, by images that tell (02, section 1; docs/DECISIONS.md). Assumes nothing.
--   readings_hold    a cut field is charged to the length even if it is wrong already; of two faults the first in reading order counts; width before count; the wall;
--                    bytes left over; the smallest good image
use mathlib.Core.Path.{◌≡◌, refl}
use mathlib.Core.List.{List, [], ◌∷◌}
use Prim.Native.Nat.{ℕ}
use Rattle.pascal.specs.Choose.{choose}
use Rattle.answers.specs.Says.{refuses_at, gives}
use Rattle.little_endian.specs.Bytes.{number_at}
use Rattle.image_rules.specs.Image.{occurs, body_place, rows_from, judged, image_says}

-- one table, Forbidden of degree 0 over 0, whose one entry is 7
abbrev pub smallest : List ℕ → List ℕ
smallest rest = 1 ∷ 0 ∷ 0 ∷ 0 ∷ 0 ∷ 0 ∷ 0 ∷ 0 ∷ 16 ∷ 0 ∷ 0 ∷ 0 ∷ 1 ∷ 0 ∷ 0 ∷ 0 ∷ 7 ∷ 0 ∷ 0 ∷ 0 ∷ 0 ∷ 0 ∷ 0 ∷ 0 ∷ rest

pub record Readings : Type 0 where
  pub none : image_says [] ≡ refuses_at 11 0
  pub cut_and_wrong : image_says (255 ∷ 255 ∷ 255 ∷ []) ≡ refuses_at 11 3
  pub whole_and_wrong : image_says (255 ∷ 255 ∷ 255 ∷ 0 ∷ []) ≡ refuses_at 11 0
  pub no_tables : image_says (0 ∷ 0 ∷ 0 ∷ 0 ∷ []) ≡ refuses_at 11 0
  pub tables_65 : image_says (65 ∷ 0 ∷ 0 ∷ 0 ∷ []) ≡ refuses_at 11 0
  pub rows_missing : image_says (1 ∷ 0 ∷ 0 ∷ 0 ∷ []) ≡ refuses_at 11 4
  pub second-family : image_says (2 ∷ 0 ∷ 0 ∷ 0 ∷ 0 ∷ 0 ∷ 0 ∷ 0 ∷ 28 ∷ 0 ∷ 0 ∷ 0 ∷ 1 ∷ 0 ∷ 0 ∷ 0 ∷ 9 ∷ []) ≡ refuses_at 11 16
  pub repeated-degree : image_says (2 ∷ 0 ∷ 0 ∷ 0 ∷ 0 ∷ 0 ∷ 0 ∷ 0 ∷ 28 ∷ 0 ∷ 0 ∷ 0 ∷ 1 ∷ 0 ∷ 0 ∷ 0 ∷ 0 ∷ 0 ∷ 9 ∷ []) ≡ refuses_at 11 17
  pub wide_and_zero_byte : image_says (1 ∷ 0 ∷ 0 ∷ 0 ∷ 1 ∷ 64 ∷ 2 ∷ 1 ∷ []) ≡ refuses_at 11 6
  pub offset_before_count : image_says (1 ∷ 0 ∷ 0 ∷ 0 ∷ 0 ∷ 3 ∷ 2 ∷ 0 ∷ 17 ∷ 0 ∷ 0 ∷ 0 ∷ 0 ∷ 0 ∷ 0 ∷ 0 ∷ []) ≡ refuses_at 11 8
  pub count_of_none : image_says (1 ∷ 0 ∷ 0 ∷ 0 ∷ 1 ∷ 64 ∷ 0 ∷ 0 ∷ 16 ∷ 0 ∷ 0 ∷ 0 ∷ 0 ∷ 0 ∷ 0 ∷ 0 ∷ []) ≡ refuses_at 11 12
  pub past_the_wall : image_says (1 ∷ 0 ∷ 0 ∷ 0 ∷ 0 ∷ 6 ∷ 20 ∷ 0 ∷ 16 ∷ 0 ∷ 0 ∷ 0 ∷ 104 ∷ 151 ∷ 0 ∷ 0 ∷ []) ≡ refuses_at 11 12
  pub smallest-good : image_says (smallest []) ≡ gives 1
  pub left_over : image_says (smallest (5 ∷ [])) ≡ refuses_at 11 24

pub readings_hold : Readings
unfolding choose number_at occurs body_place rows_from judged
readings_hold =
    record {
      none = refl;
      cut_and_wrong = refl;
      whole_and_wrong = refl;
      no_tables = refl;
      tables_65 = refl;
      rows_missing = refl;
      second-family = refl;
      repeated-degree = refl;
      wide_and_zero_byte = refl;
      offset_before_count = refl;
      count_of_none = refl;
      past_the_wall = refl;
      smallest-good = refl;
      left_over = refl;
    }
