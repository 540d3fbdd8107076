-- The coefficient of a term in an image (02, section 1). Assumes nothing.
--   entry_of l t r    entry r of the body of a table: eight bytes, the lowest first
--   coefficient_says l x t    3 if the word of the index has a symbol that the table does not have; the entry of its rank
--   lookup_says l x    taken: 1, 7; 11; 12 if no table has the index's family and degree; 3; the coefficient
--   entry_says l t r    3 if the table has no entry r; the entry
--   lookup_at_says l t x    taken: 1, 7; 7 if the body of the table does not lie within the image; 3; the entry of the index's rank
use Rattle.std.specs.Prelude.{List, ℕ, ◌+◌, ◌*◌, leb, ltb, length}
use Rattle.words.specs.Rank.{rank_of}
use Rattle.answers.specs.declared.Index.{Index}
use Rattle.answers.specs.Says.{Says, gives, refused_if, and_then}
use Rattle.answers.specs.Terms.{word_of}
use Rattle.bits.specs.Member.{reaches}
use Rattle.taking.specs.Taken.{taken}
use Rattle.little_endian.specs.Bytes.{number_at}
use Rattle.image_reading.specs.declared.Table.{Table}
use Rattle.image_reading.specs.Reading.{row_says}

abbrev pub entry_of : List ℕ → Table → ℕ → ℕ
entry_of l t r = number_at l (t.offset + 8 * r) 8

abbrev pub coefficient_says : List ℕ → Index → Table → Says ℕ
coefficient_says l x t = refused_if (reaches t.alphabet (word_of x)) 3 (gives (entry_of l t (rank_of x.family (word_of x))))

abbrev pub lookup_says : List ℕ → Index → Says ℕ
lookup_says l x = taken x (and_then (row_says l x.family (length (word_of x))) (coefficient_says l x))

-- ---- by a table that is given

abbrev pub entry_says : List ℕ → Table → ℕ → Says ℕ
entry_says l t r = refused_if (leb t.entries r) 3 (gives (entry_of l t r))

abbrev pub lookup_at_says : List ℕ → Table → Index → Says ℕ
lookup_at_says l t x =
    taken x (refused_if (ltb (length l) (t.offset + 8 * t.entries)) 7 (entry_says l t (rank_of x.family (word_of x))))
