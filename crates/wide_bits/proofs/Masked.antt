-- A half under a mask. Assumes nothing.
--   masked    the digits below s
use Rattle.std.proofs.Common.{◌≡◌, ℕ, ◌-◌, ◌%◌, ◌^◌, ◌<◌, ap, ◌∙◌, arith}
use lib.Bits.{bit_and, and_mask}
use Rattle.bits.specs.Mask.{clamped, LowMask}
use Rattle.bits.proofs.Mask.{clamped_mod}

pub masked : (a s mask : ℕ) → a < 2 ^ 64 → LowMask s mask → bit_and a mask ≡ a % 2 ^ s
masked a s mask h m = ap (bit_and a) (omega (arith, m.number)) ∙ and_mask a (clamped s) ∙ clamped_mod s a h
