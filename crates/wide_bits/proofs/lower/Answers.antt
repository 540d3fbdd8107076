-- `wide_bits::lower` meets its contract. Assumes nothing.
use Rattle.std.proofs.Common.{◌-◌, sym, ap, ◌∙◌, arith, rules}
use Rattle.seam.specs.Joined.{joined}
use Rattle.seam.proofs.Joined.{joined_mod, joined_mod_far}
use Rattle.wide_bits.proofs.Masked.{masked}
use Rattle.wide_bits.proofs.lower.Goals as goal

pub returns-then-s-lt64 : goal.returns-then-s-lt64
returns-then-s-lt64 c = omega (arith, masked c.args.a.low c.args.s _ (search rules) c.low_mask.ensures, joined_mod 64 c.args.s c.args.a.low c.args.a.high (omega arith))

pub returns : goal.returns
returns c = ap (joined 64 c.args.a.low) (masked c.args.a.high _ _ (search rules) c.low_mask-2.ensures) ∙ sym (joined_mod_far 64 c.args.s c.args.a.low c.args.a.high (omega arith) (search rules))
