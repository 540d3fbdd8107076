-- Numbers in a list of bytes, the lowest byte first (02, section 1: "little-endian"). Assumes nothing.
--   number_at l at w    the number of w bytes from place at; a place past the end reads as 0
use Rattle.std.specs.Prelude.{List, ℕ, zero, suc, ◌+◌, ◌*◌, get_or}

unfoldable pub number_at : List ℕ → ℕ → ℕ → ℕ
number_at l at zero = 0
number_at l at (suc w) = get_or l at 0 + 256 * number_at l (suc at) w
