-- `cartesian::within` meets its contract. The invariant: the digits that are left decide. Assumes nothing.
use mathlib.Core.Path.{◌≡◌}
use lib.ListN.{drop}
use Rattle.cartesian.specs.Checks.{within as within_of}
use Rattle.cartesian.proofs.within.Given as goal

abbrev pub invariant-loop-i : goal.invariant-loop-i
invariant-loop-i l = within_of l.radices l.digits ≡ within_of (drop l.i l.radices) (drop l.i l.digits)
