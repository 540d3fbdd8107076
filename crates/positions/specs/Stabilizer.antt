-- The rearrangements of the positions of a word that leave it as it is (01: the stabilizer). Assumes nothing.
--   Stabilizes w p    p rearranges the positions of w, and w read at p(0), p(1), .. is w again
use Rattle.std.specs.Prelude.{◌≡◌, List, ℕ, length}
use Rattle.arrangements.specs.Permutation.{Permutation, compose}

pub record Stabilizes (w p : List ℕ) : Type 0 where
  pub permutation : Permutation (length w) p
  pub kept : compose w p ≡ w
