-- Where an offset of an image falls, by the numbers of document 02, section 1. Assumes nothing.
--   Falls tables at r    the offset `at` of an image with so many tables is in its first four bytes, in a row, at so many bytes from the row's beginning, or behind the rows, as r says
use Rattle.std.specs.Prelude.{ℕ, ◌+◌, ◌*◌, ◌<◌, ◌≤◌, ◌≡◌}
use Rattle.image_text.specs.declared.Place.{Place}
use Rattle.image_text.specs.declared.Place.TheVariants as place

abbrev pub Falls : ℕ → ℕ → Place → Type 0
Falls tables at place.Number = at < 4
Falls tables at (place.Row i within) = (at ≡ 4 + 12 * i + within) × (within < 12) × (i < tables)
Falls tables at place.Behind = 4 + 12 * tables ≤ at
