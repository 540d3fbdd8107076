-- `digits_algebra::occurrences` meets its contract. The invariant: how often the symbol has occurred. Assumes nothing.
use mathlib.Core.Path.{◌≡◌}
use Prim.Native.Nat.{◌≤◌}
use lib.ListN.{take}
use Rattle.words.specs.Inversions.{multiplicity}
use Rattle.digits_algebra.proofs.occurrences.Given as goal

abbrev pub invariant-loop-x : goal.invariant-loop-x
invariant-loop-x l = (l.n ≤ l.x-index) × (l.n ≡ multiplicity l.s (take l.x-index (take l.upto l.word)))
