-- `wide_bits::add` meets its contract. Assumes nothing.
use Rattle.std.proofs.Common.{ℕ, ◌+◌, ◌%◌, ◌^◌, ap, ◌∙◌, rules}
use Rattle.seam.proofs.Adding.{carries, carries_not, joined-add, joined_add_none}
use Rattle.wide_bits.proofs.add.Goals as goal

pub returns-then-low-left : goal.returns-then-low-left
returns-then-low-left c = joined-add 64 c.args.a.low c.args.a.high c.args.b.low c.args.b.high _ _ 1
    (carries 64 c.args.a.low c.args.b.low _ (search rules) (search rules) c.wrapping_add_u64-low.ensures.value c.if-low-left.true)
    (c.wrapping_add_u64-high.ensures.value ∙ ap (λ (x : ℕ). (x + 1) % 2 ^ 64) c.wrapping_add_u64-sum.ensures.value)

pub returns : goal.returns
returns c = joined_add_none 64 c.args.a.low c.args.a.high c.args.b.low c.args.b.high _ _
    (carries_not 64 c.args.a.low c.args.b.low _ (search rules) (search rules) c.wrapping_add_u64-low.ensures.value c.if-low-left.false)
    c.wrapping_add_u64-sum.ensures.value
