-- `cartesian::size` meets its contract. The invariant: the product of the radices from axis i up, which is below 2^64. Assumes nothing.
use mathlib.Core.Path.{◌≡◌}
use Prim.Native.Nat.{◌<◌, ◌^◌}
use lib.ListN.{drop}
use Rattle.positional.specs.Positional.{product as product_of}
use Rattle.cartesian.proofs.size.Given as goal

abbrev pub invariant-loop-i : goal.invariant-loop-i
invariant-loop-i l = (l.product ≡ product_of (drop l.i l.radices)) × (l.product < 2 ^ 64)
