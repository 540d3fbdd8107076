-- A wide index and its number. Assumes nothing.
--   wide_of_whole    the index of the number of two halves has these halves
--   whole_of_wide    the number of the index of a number is that number
--   whole_fits    the number of two halves has 128 digits
use mathlib.Core.Path.{◌≡◌, sym, ap, ap₂, ◌∙◌}
use Prim.Native.Nat.{ℕ, ◌*◌, ◌+◌, ◌/◌, ◌%◌, ◌^◌, ◌<◌}
use lib.Pow.{high, low, split}
use Rattle.words.specs.declared.Family.{Family}
use Rattle.seam.specs.Joined.{joined}
use Rattle.seam.proofs.Joined.{joined-lt}
use Rattle.wide.specs.declared.Wide.{Wide}
use Rattle.wide.specs.Answers.{whole_of, wide_of}

pub wide_of_whole : (F : Family) (l h a : ℕ) → l < 2 ^ 64 → joined 64 l h ≡ a → record { family = F; low = l; high = h } ≡ wide_of F a
wide_of_whole F l h a f e =
    ap₂ (λ (x y : ℕ). record { family = F; low = x; high = y }) (sym (low h 64 f) ∙ ap (λ (x : ℕ). x % 2 ^ 64) e) (sym (high h 64 f) ∙ ap (λ (x : ℕ). x / 2 ^ 64) e)

pub whole_of_wide : (F : Family) (a : ℕ) → whole_of (wide_of F a) ≡ a
whole_of_wide F a = split a 64

pub whole_fits : (x : Wide) → x.low < 2 ^ 64 → x.high < 2 ^ 64 → whole_of x < 2 ^ 128
whole_fits x l h = joined-lt 64 64 x.low x.high l h
