-- The test whether a number stands in a list. Assumes nothing.
--   stands_in x w    does x stand in w? `stands_is_in` says that it is so exactly if `In x w`
use Rattle.std.specs.Prelude.{Bool, true, false, List, [], ◌∷◌, ℕ, eqb}
use Rattle.words.specs.Pick.{pick}

unfoldable pub stands_in : ℕ → List ℕ → Bool
stands_in x [] = false
stands_in x (y ∷ ys) = pick (eqb x y) true (stands_in x ys)
