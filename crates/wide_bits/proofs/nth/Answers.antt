-- `wide_bits::nth` meets its contract. Assumes nothing.
use Rattle.std.proofs.Common.{◌≡◌, ℕ, ◌-◌, length, get_or, sym, ap, ◌∙◌, arith, rules}
use Rattle.words.specs.Bits.{set_bits}
use Rattle.seam.proofs.Joined.{joined-at-low, joined-at-high, within}
use Rattle.wide_bits.proofs.nth.Goals as goal

pub returns-then-p-k : goal.returns-then-p-k
returns-then-p-k c = c.nth.ensures ∙ sym (joined-at-low 64 c.args.a.low c.args.a.high (search rules) c.args.p 128 64 (omega arith))

pub overflow_add-result : goal.overflow_add-result
overflow_add-result c = omega (arith, within 64 c.args.a.high (c.args.p - c.count_ones-k.result) (search rules))

pub returns : goal.returns
returns c =
    let e : get_or (set_bits c.args.a.high) (c.args.p - c.count_ones-k.result) 64 ≡ get_or (set_bits c.args.a.high) (c.args.p - length (set_bits c.args.a.low)) 64 = ap (λ (x : ℕ). get_or (set_bits c.args.a.high) (c.args.p - x) 64) c.count_ones-k.ensures in
    omega (arith, e, joined-at-high 64 c.args.a.low c.args.a.high (search rules) 64 c.args.p (omega arith))
