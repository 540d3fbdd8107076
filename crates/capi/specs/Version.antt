-- The version of the library. Assumes nothing.
--   major, minor, patch    its three numbers
use Rattle.std.specs.Prelude.{ℕ}

abbrev pub major : ℕ
major = 0

abbrev pub minor : ℕ
minor = 1

abbrev pub patch : ℕ
patch = 0
