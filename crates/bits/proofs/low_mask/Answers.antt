-- `bits::low_mask` meets its contract: below 64 the shifted 1 is 2 ^ n, and from 64 up all digits are set. Assumes nothing.
use Rattle.std.proofs.Common.{ℕ, ◌-◌, ◌*◌, ◌%◌, ◌^◌, sym, ap, mod-eq_of_lt, arith, pow_pos}
use lib.Pow.{pow-lt}
use Rattle.bits.proofs.Mask.{clamped_below, clamped_from, low_mask}
use Rattle.bits.proofs.low_mask.Goals as goal

pub overflow_sub-result : goal.overflow_sub-result
overflow_sub-result c = omega (arith, mod-eq_of_lt (pow-lt c.if-n-lt64.true), pow_pos c.args.n)

pub returns-then-n-lt64 : goal.returns-then-n-lt64
returns-then-n-lt64 c =
    low_mask c.args.n (1 * 2 ^ c.args.n % 2 ^ 64 - 1)
    (omega (arith, mod-eq_of_lt (pow-lt c.if-n-lt64.true), pow_pos c.args.n, ap (λ (k : ℕ). 2 ^ k) (clamped_below c.args.n c.if-n-lt64.true)))

pub returns-else-n-lt64 : goal.returns-else-n-lt64
returns-else-n-lt64 c = low_mask c.args.n (2 ^ 64 - 1) (ap (λ (k : ℕ). 2 ^ k) (sym (clamped_from c.args.n c.if-n-lt64.false)))
