-- `bits::shr_total` meets its contract: from 64 up the divisor is more than any number of 64 digits. Assumes nothing.
use Rattle.std.proofs.Common.{sym, lt_of_lt_of_le, pow_mono, rules}
use native.Mathlib.Nat.{div-eq_of_lt}
use Rattle.bits.proofs.shr_total.Goals as goal

pub returns-else-n-lt64 : goal.returns-else-n-lt64
returns-else-n-lt64 c = sym (div-eq_of_lt (lt_of_lt_of_le (search rules) (pow_mono c.if-n-lt64.false)))
