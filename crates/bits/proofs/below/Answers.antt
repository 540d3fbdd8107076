-- `bits::below` meets its contract: the mask leaves the digits below s. Assumes nothing.
use Rattle.std.proofs.Common.{◌≡◌, ℕ, ◌-◌, ◌^◌, length, sym, ap, ◌∙◌, arith, rules}
use lib.Bits.{bit_and, and_mask}
use Rattle.words.specs.Bits.{set_bits}
use Rattle.words.proofs.SetLaws.{how_many_below}
use Rattle.bits.specs.Mask.{clamped}
use Rattle.bits.proofs.Mask.{clamped_mod}
use Rattle.bits.proofs.below.Goals as goal

pub returns : goal.returns
returns c =
    let a : ℕ = c.args.a in
    let s : ℕ = c.args.s in
    let m : c.low_mask.result ≡ 2 ^ clamped s - 1 = omega (arith, c.low_mask.ensures.number) in
    c.count_ones.ensures
    ∙ ap (λ (b : ℕ). length (set_bits b)) (ap (bit_and a) m ∙ and_mask a (clamped s) ∙ clamped_mod s a (search rules))
    ∙ sym (how_many_below s a)
