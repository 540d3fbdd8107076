-- What the strides of a shape and the offset of a corner are, for all inputs, in document 01's numbers: the checks in 01's order, as 02, section 4, amends them, and
-- then the value. A shape is the list of its radices. Assumes nothing.
--   strides_says rs room    1; 9 by the products of the first radices, up to one less than all; 8; the strides
--   corner_says rs axes    1; 7 if an axis is not below the number of axes; 9 of the exact sum; the sum of the strides of the chosen axes
use Rattle.std.specs.Prelude.{List, ℕ, ◌-◌, ltb, length}
use Rattle.words.specs.Bits.{set_bits}
use Rattle.bits.specs.Member.{reaches}
use Rattle.positional.specs.Positional.{strides, corner_of}
use Rattle.answers.specs.Says.{Says, gives, refused_if}
use Rattle.cartesian.specs.Checks.{number_says}
use Rattle.cartesian_strides.specs.Partial.{too_big}
use Rattle.cartesian.specs.Rules.{wide}

abbrev pub strides_says : List ℕ → ℕ → Says (List ℕ)
strides_says rs room = refused_if (wide rs) 1 (refused_if (too_big rs (length rs - 1)) 9 (refused_if (ltb room (length rs)) 8 (gives (strides rs))))

abbrev pub corner_says : List ℕ → ℕ → Says ℕ
corner_says rs axes = refused_if (wide rs) 1 (refused_if (reaches (length rs) (set_bits axes)) 7 (number_says (corner_of rs (set_bits axes))))
