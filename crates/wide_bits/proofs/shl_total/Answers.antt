-- `wide_bits::shl_total` meets its contract. Assumes nothing.
use Rattle.std.proofs.Common.{◌+◌, sym, ap, ◌∙◌, ap₂, arith, rules}
use Rattle.seam.specs.Joined.{joined}
use Rattle.seam.proofs.Joined.{joined_shl, joined_shl_far, joined_shl_fits}
use Rattle.wide_bits.proofs.shl_total.Goals as goal

pub overflow_add-high : goal.overflow_add-high
overflow_add-high c = omega (arith, joined_shl_fits 64 c.args.n c.args.a.low c.args.a.high (omega arith) (search rules))

pub returns-then-n-lt64 : goal.returns-then-n-lt64
returns-then-n-lt64 c =
    ap₂ (joined 64) c.shl_total-low.ensures (ap₂ ◌+◌ c.shl_total.ensures c.shr_total.ensures)
    ∙ sym (joined_shl 64 c.args.n c.args.a.low c.args.a.high (omega arith) (search rules))

pub returns : goal.returns
returns c = ap (joined 64 0) c.shl_total-high.ensures ∙ sym (joined_shl_far 64 c.args.n c.args.a.low c.args.a.high (omega arith))
