-- The table of an image and the verdict on pieces, as numbers and truth values. Assumes nothing.
--   alphabet_of_table t, offset_of_table t, entries_of_table t    the parts of a table
--   table_of alphabet offset entries    the table that three numbers stand for
--   told_says v    what a verdict says: whether it is open and how many tables there are, 0 while it is; 11
--   still_open o, tables_told o    the parts of that
use Rattle.std.specs.Prelude.{Bool, true, false, ℕ}
use Rattle.answers.specs.Says.{Says, refuses_at, gives}
use Rattle.image_reading.specs.declared.Table.{Table}
use Rattle.pieces.specs.declared.Verdict.{Verdict}
use Rattle.pieces.specs.declared.Verdict.TheVariants.{Open, Good, Bad}

abbrev pub alphabet_of_table : Table → ℕ
alphabet_of_table t = t.alphabet

abbrev pub offset_of_table : Table → ℕ
offset_of_table t = t.offset

abbrev pub entries_of_table : Table → ℕ
entries_of_table t = t.entries

abbrev pub table_of : ℕ → ℕ → ℕ → Table
table_of alphabet offset entries = record { alphabet = alphabet; offset = offset; entries = entries }

pub record Outlook : Type 0 where
  pub still : Bool
  pub tables : ℕ

abbrev pub told_says : Verdict → Says Outlook
told_says Open = gives (record { still = true; tables = 0 })
told_says (Good t) = gives (record { still = false; tables = t })
told_says (Bad at) = refuses_at 11 at

abbrev pub still_open : Outlook → Bool
still_open o = o.still

abbrev pub tables_told : Outlook → ℕ
tables_told o = o.tables
