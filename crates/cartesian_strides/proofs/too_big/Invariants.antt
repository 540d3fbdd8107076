-- `cartesian_strides::too_big` meets its contract. The invariant: the product of the radices passed, and that none on the way was 2^64 or more. Assumes nothing.
use Rattle.cartesian_strides.proofs.Products.{Partial}
use Rattle.cartesian_strides.proofs.too_big.Given as goal

abbrev pub invariant-loop-r : goal.invariant-loop-r
invariant-loop-r l = Partial l.radices l.stride l.r-index
