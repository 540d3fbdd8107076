-- The wide index as one number. Assumes nothing.
--   whole_of x    the number of 128 digits whose halves the index holds
--   wide_of F a    the index of a number
use Rattle.std.specs.Prelude.{ℕ, ◌/◌, ◌%◌, ◌^◌}
use Rattle.words.specs.declared.Family.{Family}
use Rattle.seam.specs.Joined.{joined}
use Rattle.wide.specs.declared.Wide.{Wide}

abbrev pub whole_of : Wide → ℕ
whole_of x = joined 64 x.low x.high

abbrev pub wide_of : Family → ℕ → Wide
wide_of F a = record { family = F; low = a % 2 ^ 64; high = a / 2 ^ 64 }
