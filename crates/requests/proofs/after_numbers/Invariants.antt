-- `requests::after_numbers` meets its contract: what is passed and what is still ahead are the numbers from place i on. Assumes nothing.
use mathlib.Core.Path.{◌≡◌}
use Prim.Native.Nat.{◌+◌}
use lib.ListN.{drop}
use Rattle.requests.specs.Patterns.{numbers_in}
use Rattle.requests.proofs.after_numbers.Given as goal

abbrev pub invariant-loop-to : goal.invariant-loop-to
invariant-loop-to l = l.to + numbers_in (drop l.to l.kinds) ≡ l.i + numbers_in (drop l.i l.kinds)
