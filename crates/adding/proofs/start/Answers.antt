-- `adding::start` meets its contract. Assumes nothing.
use mathlib.Core.Path.{ap}
use Prim.Native.Nat.{ℕ, ◌+◌}
use native.Mathlib.Omega.{arith}
use lib.Dec.{eqb}
use Rattle.adding.proofs.Places.{begun, at_most}
use Rattle.adding.proofs.start.Goals as goal

pub at-rank-requires : goal.at-rank-requires
at-rank-requires c = omega (arith, c.requires)

pub overflow_add-times : goal.overflow_add-times
overflow_add-times c = omega (arith, c.if_equal-times.ensures, at_most (eqb c.args.s 0) c.args.k, c.requires)

pub returns : goal.returns
returns c =
    begun c.args.s c.args.k c.low_mask-bits.result c.at-rank.result _ c.requires c.low_mask-bits.ensures c.at-rank.ensures
    (ap (λ (y : ℕ). 1 + y) c.if_equal-times.ensures)
