-- `digits::power` meets its contract. The invariant: what is made, and what is left of the power. The measure is how many factors are left. Assumes nothing.
use Prim.Native.Nat.{◌^◌}
use Rattle.digits.proofs.Powers.{Squared}
use Rattle.digits.proofs.power.Given as goal

abbrev pub invariant-loop-left : goal.invariant-loop-left
invariant-loop-left l = Squared l.product l.base l.left (l.radix ^ l.degree)

abbrev pub decreases-loop-left : goal.decreases-loop-left
decreases-loop-left l = l.left
