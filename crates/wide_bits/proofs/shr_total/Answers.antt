-- `wide_bits::shr_total` meets its contract. Assumes nothing.
use Rattle.std.proofs.Common.{◌+◌, sym, ◌∙◌, ap₂, arith, rules}
use Rattle.seam.specs.Joined.{joined}
use Rattle.seam.proofs.Joined.{joined_shr, joined_shr_far, joined_shr_fits}
use Rattle.wide_bits.proofs.shr_total.Goals as goal

pub overflow_add-low : goal.overflow_add-low
overflow_add-low c = omega (arith, joined_shr_fits 64 c.args.n c.args.a.low c.args.a.high (omega arith) (search rules))

pub returns-then-n-lt64 : goal.returns-then-n-lt64
returns-then-n-lt64 c =
    ap₂ (joined 64) (ap₂ ◌+◌ c.shr_total.ensures c.shl_total.ensures) c.shr_total-high.ensures
    ∙ sym (joined_shr 64 c.args.n c.args.a.low c.args.a.high (omega arith))

pub returns : goal.returns
returns c = omega (arith, c.shr_total-low.ensures, joined_shr_far 64 c.args.n c.args.a.low c.args.a.high (omega arith) (search rules))
