-- Pascal's triangle as one list: of each row of 0 to 64 the places from the first up to its middle, a row after the other. What is left out is 1, 0 or a mirror image.
-- There are 1024 such cells, in 16 parts of 64 (`Parts`). Assumes nothing.
--   cell_of h i    what stands at place i of part h
--   place n k    where place k of row n stands in the list
use Rattle.std.specs.Prelude.{List, [], ℕ, ◌+◌, ◌-◌, ◌*◌, ◌/◌, get_or}
use Rattle.triangle.specs.Parts.{parts}

abbrev pub cell_of : ℕ → ℕ → ℕ
cell_of h i = get_or (get_or parts h []) i 0

abbrev pub place : ℕ → ℕ → ℕ
place n k = (n - 1) * (n - 1) / 4 + (k - 1)
