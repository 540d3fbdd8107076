-- The row of a table in an image (02, section 1). Assumes nothing.
--   number_of_family F    the byte that stands for a family: 0 Forbidden, 1 Allowed
--   find_row l f k i    the row, of the first i, that has the family f and the degree k: 12 if none has
--   number_says l F k    11, 12; the number of the row
--   table_at l i    what row i names: the alphabet, the place of the body and the number of entries
--   row_says l F k    11, 12; the table
use Rattle.std.specs.Prelude.{List, ◌&&◌, ℕ, zero, suc, eqb}
use Rattle.words.specs.declared.Family.{Family}
use Rattle.words.specs.declared.Family.TheVariants.{Forbidden, Allowed}
use Rattle.words.specs.Pick.{pick}
use Rattle.answers.specs.Says.{Says, refuses, gives, and_then}
use Rattle.image_rules.specs.Image.{family_at, degree_at, alphabet_at, offset_at, entries_at, image_says}
use Rattle.image_reading.specs.declared.Table.{Table}

abbrev pub number_of_family : Family → ℕ
number_of_family Forbidden = 0
number_of_family Allowed = 1

unfoldable pub find_row : List ℕ → ℕ → ℕ → ℕ → Says ℕ
find_row l f k zero = refuses 12
find_row l f k (suc i) = pick (eqb (family_at l i) f && eqb (degree_at l i) k) (gives i) (find_row l f k i)

abbrev pub number_says : List ℕ → Family → ℕ → Says ℕ
number_says l F k = and_then (image_says l) (λ t. find_row l (number_of_family F) k t)

abbrev pub table_at : List ℕ → ℕ → Table
table_at l i = record { alphabet = alphabet_at l i; offset = offset_at l i; entries = entries_at l i }

abbrev pub row_says : List ℕ → Family → ℕ → Says Table
row_says l F k = and_then (number_says l F k) (λ i. gives (table_at l i))
