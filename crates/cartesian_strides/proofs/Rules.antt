-- What an answer of a corner tells of its arguments. Assumes nothing.
--   corner_given    what `corner_says` gives
use mathlib.Core.Path.{◌≡◌}
use mathlib.Core.Bool.{false}
use mathlib.Core.List.{List}
use Prim.Native.Nat.{ℕ, ◌^◌, ◌<◌}
use native.Mathlib.Omega.{arith}
use lib.ListN.{length}
use Rattle.words.specs.Bits.{set_bits}
use Rattle.words.proofs.Bits.{bits_fit, bits_of_set, set-bits-monotone}
use Rattle.bits.specs.Member.{reaches}
use Rattle.bits.proofs.Member.{reaches_not}
use Rattle.positional.specs.Positional.{corner_of}
use Rattle.answers.specs.Says.{gives, refused_if}
use Rattle.answers.proofs.Says.{passed}
use Rattle.cartesian.specs.Checks.{number_says}
use Rattle.cartesian.specs.Rules.{wide}
use Rattle.cartesian_strides.specs.Rules.{corner_says}
use Rattle.cartesian.proofs.Fits.{fits_given}

pub corner_given : (rs : List ℕ) (axes x : ℕ) → corner_says rs axes ≡ gives x → (axes < 2 ^ length rs) × (x ≡ corner_of rs (set_bits axes))
corner_given rs axes x e = go (passed (wide rs) 1 (refused_if (reaches (length rs) (set_bits axes)) 7 (number_says (corner_of rs (set_bits axes)))) x e)
  where
    go : (wide rs ≡ false) × (refused_if (reaches (length rs) (set_bits axes)) 7 (number_says (corner_of rs (set_bits axes))) ≡ gives x)
        → (axes < 2 ^ length rs) × (x ≡ corner_of rs (set_bits axes))
    go p = on (passed (reaches (length rs) (set_bits axes)) 7 (number_says (corner_of rs (set_bits axes))) x p.1)
      where
        on : (reaches (length rs) (set_bits axes) ≡ false) × (number_says (corner_of rs (set_bits axes)) ≡ gives x) → (axes < 2 ^ length rs) × (x ≡ corner_of rs (set_bits axes))
        on q = (
          omega (arith, bits_of_set axes, bits_fit (length rs) (set_bits axes) (set-bits-monotone axes) ((reaches_not (length rs) (set_bits axes)).0 q.0)),
          (fits_given (corner_of rs (set_bits axes)) x q.1).1,
        )
