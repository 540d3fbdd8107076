-- `wide_bits::below` meets its contract. Assumes nothing.
use Rattle.std.proofs.Common.{◌-◌, sym, ◌∙◌, arith, rules}
use Rattle.seam.proofs.Joined.{joined-below-low, joined-below-high, long_le, smaller_le}
use Rattle.words.specs.Bits.{set_bits}
use Rattle.wide_bits.proofs.below.Goals as goal

pub returns-then-s-lt64 : goal.returns-then-s-lt64
returns-then-s-lt64 c = c.below.ensures ∙ sym (joined-below-low 64 c.args.a.low c.args.a.high (search rules) c.args.s (omega arith))

pub overflow_add-result : goal.overflow_add-result
overflow_add-result c = omega (arith, long_le 64 c.args.a.low (search rules), long_le 64 c.args.a.high (search rules), smaller_le (c.args.s - 64) (set_bits c.args.a.high))

pub returns : goal.returns
returns c = omega (arith, joined-below-high 64 c.args.a.low c.args.a.high (search rules) c.args.s (omega arith))
