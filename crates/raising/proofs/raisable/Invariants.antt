-- `raising::raisable` meets its contract, by the laws of `Raising`. Assumes nothing.
use mathlib.Core.Path.{◌≡◌}
use mathlib.Core.Bool.{false}
use lib.ListN.{drop}
use Rattle.lexicographic.specs.Order.{has_later}
use Rattle.raising.proofs.raisable.Given as goal

abbrev pub invariant-loop-i : goal.invariant-loop-i
invariant-loop-i l = has_later l.family l.n (drop l.i l.word) ≡ false
