-- The surface of an image (02, section 3): its Allowed tables over 2 symbols, by degree. An image is a list of bytes. Assumes nothing.
--   numbers_at l at n    n numbers of eight bytes from place at
--   body_of l s    the entries of a table that was asked for: none where there is no such table
--   table_of l k    those of the Allowed table of degree k
--   tables_from l k n    the tables of the n degrees from k up
--   surface_of l    those of the degrees 0 to 63: over 2 symbols no table has a higher one
--   some_other l t    is one of the first t rows a table of another family or alphabet?
--   Surface l t    the image is good, has t tables, and none of them is another
--   table_finite cs, entries_finite ts    every entry of a table, and of a surface, is finite
--   all_finite p t ts    both readings, every entry, and the mass are finite
use Rattle.std.specs.Prelude.{Bool, true, false, ◌&&◌, ◌≡◌, List, [], ◌∷◌, ℕ, zero, suc, ◌+◌, eqb, Float}
use Rattle.std.specs.Float.{binary64}
use Rattle.std.specs.Float.Ieee.{of_bits}
use Rattle.words.specs.declared.Family.TheVariants.{Allowed}
use Rattle.words.specs.Pick.{pick}
use Rattle.answers.specs.Says.{Says, refuses_with, gives}
use Rattle.little_endian.specs.Bytes.{number_at}
use Rattle.image_rules.specs.Image.{family_at, alphabet_at, image_says}
use Rattle.image_reading.specs.declared.Table.{Table}
use Rattle.image_reading.specs.Reading.{row_says}
use Rattle.rounded.specs.Finite.{finite}
use Rattle.surface.specs.Mass.{mass_of}

-- ---- the tables of an image

unfoldable pub numbers_at : List ℕ → ℕ → ℕ → List ℕ
numbers_at l at zero = []
numbers_at l at (suc n) = number_at l at 8 ∷ numbers_at l (at + 8) n

abbrev pub body_of : List ℕ → Says Table → List ℕ
body_of l (refuses_with e c) = []
body_of l (gives x) = numbers_at l x.offset x.entries

abbrev pub table_of : List ℕ → ℕ → List ℕ
table_of l k = body_of l (row_says l Allowed k)

unfoldable pub tables_from : List ℕ → ℕ → ℕ → List (List ℕ)
tables_from l k zero = []
tables_from l k (suc n) = table_of l k ∷ tables_from l (suc k) n

abbrev pub surface_of : List ℕ → List (List ℕ)
surface_of l = tables_from l 0 64

unfoldable pub some_other : List ℕ → ℕ → Bool
some_other l zero = false
some_other l (suc i) = pick (eqb (family_at l i) 1 && eqb (alphabet_at l i) 2) (some_other l i) true

pub record Surface (l : List ℕ) (t : ℕ) : Type 0 where
  pub good : image_says l ≡ gives t
  pub own : some_other l t ≡ false

-- ---- what has to be finite

abbrev pub table_finite : List ℕ → Bool
table_finite [] = true
table_finite (c ∷ cs) = finite (of_bits binary64 c) && table_finite cs

abbrev pub entries_finite : List (List ℕ) → Bool
entries_finite [] = true
entries_finite (cs ∷ ts) = table_finite cs && entries_finite ts

abbrev pub all_finite : Float → Float → List (List ℕ) → Bool
all_finite p t ts = finite p && (finite t && (entries_finite ts && finite (mass_of p t ts)))
