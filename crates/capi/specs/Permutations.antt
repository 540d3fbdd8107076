-- A permutation, as it crosses to and from a program in C. Assumes nothing.
--   lent_as e n    the record of entries that are lent, with their length
--   entries_of w    the entries of the permutation w, as many as a record holds: zeros past its length
--   length_of w    its length
use Rattle.std.specs.Prelude.{List, ℕ}
use Rattle.permutation.specs.declared.Permutation.{Permutation}
use Rattle.permutation.specs.Record.{record_of}

abbrev pub lent_as : List ℕ → ℕ → Permutation
lent_as e n = record { entries = e; len = n }

abbrev pub entries_of : List ℕ → List ℕ
entries_of w = (record_of w).entries

abbrev pub length_of : List ℕ → ℕ
length_of w = (record_of w).len
