-- `bits::shl_total` meets its contract: from 64 up nothing is left of the digits below 2 ^ 64. Assumes nothing.
use Rattle.std.proofs.Common.{◌≡◌, ◌+◌, ◌-◌, mul_assoc, arith, pow-add}
use native.Mathlib.Nat.{mul-mod_left}
use Rattle.bits.proofs.shl_total.Goals as goal

pub returns-else-n-lt64 : goal.returns-else-n-lt64
returns-else-n-lt64 c =
    let e : c.args.n ≡ (c.args.n - 64) + 64 = omega arith in
    rw (e, pow-add, ← mul_assoc, mul-mod_left)
