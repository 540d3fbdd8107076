-- The number that two halves of 64 digits make (02, §9). Assumes nothing.
--   whole a    the number of 128 digits
use Rattle.std.specs.Prelude.{ℕ}
use Rattle.seam.specs.Joined.{joined}
use Rattle.wide_bits.specs.declared.Halves.{Halves}

abbrev pub whole : Halves → ℕ
whole a = joined 64 a.low a.high
