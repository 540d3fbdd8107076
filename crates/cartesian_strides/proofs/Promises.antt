-- What a corner is, over what the calls say. Assumes nothing.
--   corner_is_a_number    the offset of a corner is the number whose digits are 1 at the chosen axes and 0 at the others
use mathlib.Core.Path.{◌≡◌, ◌∙◌}
use mathlib.Core.List.{List}
use Prim.Native.Nat.{ℕ}
use lib.ListN.{length, replicate}
use Rattle.positional.specs.Positional.{positional_value, digits_of}
use Rattle.positional.proofs.Corner.{corner_is_number}
use Rattle.answers.specs.Says.{gives}
use Rattle.cartesian_strides.specs.Rules.{corner_says}
use Rattle.cartesian_strides.proofs.Rules.{corner_given}

pub corner_is_a_number : (rs : List ℕ) (axes x : ℕ) → corner_says rs axes ≡ gives x → x ≡ positional_value rs (digits_of (replicate (length rs) 2) axes)
corner_is_a_number rs axes x e = (corner_given rs axes x e).1 ∙ corner_is_number rs axes (corner_given rs axes x e).0
