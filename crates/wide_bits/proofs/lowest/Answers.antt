-- `wide_bits::lowest` meets its contract. Assumes nothing.
use Rattle.std.proofs.Common.{sym, ◌∙◌, arith, rules}
use Rattle.seam.proofs.Joined.{joined-at-low, joined-lowest-high, some, within}
use Rattle.wide_bits.proofs.lowest.Goals as goal

pub returns-then-low-ne0 : goal.returns-then-low-ne0
returns-then-low-ne0 c = c.lowest.ensures ∙ sym (joined-at-low 64 c.args.a.low c.args.a.high (search rules) 0 128 64 (some c.args.a.low c.if-low-ne0.true))

pub overflow_add-result : goal.overflow_add-result
overflow_add-result c = omega (arith, within 64 c.args.a.high 0 (search rules))

pub returns : goal.returns
returns c = omega (arith, joined-lowest-high 64 64 c.args.a.low c.args.a.high (omega arith))
