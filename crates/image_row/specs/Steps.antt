-- What the parts of the check rest on and answer. Assumes nothing.
--   Covers len size    of an image of size bytes the first 772, or all if it is shorter, stand in a buffer of len bytes
--   marked used f k    the mark of a family and a degree in a table of 130 marks, 65 for each family
--   words_fields, body_fields    the later fields of a row, with what has been read before them
use Rattle.std.specs.Prelude.{Bool, false, ◌&&◌, List, [], ◌∷◌, ℕ, ◌+◌, ◌*◌, ◌≤◌, leb, ltb, eqb, get_or}
use Rattle.little_endian.specs.Bytes.{number_at}
use Rattle.words.specs.Word.{shifted_alphabet, count}
use Rattle.image_rules.specs.Image.{family_of_byte, Field}

pub record Covers (len size : ℕ) : Type 0 where
  pub to : (e : ℕ) → e ≤ size → e ≤ 772 → e ≤ len

abbrev pub marked : List Bool → ℕ → ℕ → Bool
marked used f k = get_or used (65 * f + k) false

-- the offset and the number of entries, where the count is known
abbrev pub body_fields : List ℕ → ℕ → ℕ → ℕ → List Field
body_fields l at place words =
    record { at = at + 4; width = 4; right = eqb (number_at l (at + 4) 4) place }
    ∷ record { at = at + 8; width = 4; right = eqb (number_at l (at + 8) 4) words && ltb 0 (number_at l (at + 8) 4) && leb (place + 8 * number_at l (at + 8) 4) 65536 }
    ∷ []

-- the alphabet and what stands behind it, where the family and the degree are known
abbrev pub words_fields : List ℕ → ℕ → ℕ → ℕ → ℕ → List Field
words_fields l at place f k =
    record { at = at + 2; width = 1; right = leb (shifted_alphabet (family_of_byte f) (get_or l (at + 2) 0) k) 64 }
    ∷ record { at = at + 3; width = 1; right = eqb (get_or l (at + 3) 0) 0 }
    ∷ body_fields l at place (count (family_of_byte f) (get_or l (at + 2) 0) k)
