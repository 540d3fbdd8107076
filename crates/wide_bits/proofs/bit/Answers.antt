-- `wide_bits::bit` meets its contract. Assumes nothing.
use Rattle.std.proofs.Common.{ℕ, ◌%◌, ◌^◌, ap, ◌∙◌, one-mul}
use Rattle.wide_bits.proofs.bit.Goals as goal

pub returns : goal.returns
returns c = c.shl_total.ensures ∙ ap (λ (x : ℕ). x % 2 ^ 128) (one-mul (2 ^ c.args.s))
