-- The range of signed numbers of 64 bits. Assumes nothing.
--   inside z    is the whole number z from -2 ^ 63 to 2 ^ 63 - 1?
use Rattle.std.specs.Prelude.{Bool, ◌^◌, ltb, ℤ}
use Rattle.std.specs.Int.Signed.{mag}

-- `mag` of a negative number -(n + 1) is n, of another n is n
abbrev pub inside : ℤ → Bool
inside z = ltb (mag z) (2 ^ 63)
