-- `digits::number` meets its contract. The invariant: the number of the symbols from position i up. Assumes nothing.
use mathlib.Core.Path.{subst}
use native.Mathlib.Omega.{arith}
use lib.ListN.{length, replicate, length-replicate}
use Rattle.cartesian.proofs.Tuples.{Above, above_starts, above_ends}
use Rattle.digits.proofs.Positions.{rising-turn, rising-fits}
use Rattle.digits.proofs.number.Goals as goal

pub loop-i-init : goal.loop-i-init
loop-i-init c =
    subst (Above (replicate (length c.args.symbols.now) c.args.radix) c.args.symbols.now 0) (length-replicate (length c.args.symbols.now) c.args.radix) (above_starts (replicate (length c.args.symbols.now) c.args.radix) c.args.symbols.now)

pub overflow_mul-above : goal.overflow_mul-above
overflow_mul-above c = omega (arith, rising-fits c.args.radix c.args.symbols.now c.loop-i.above c.loop-i.i c.requires.0 c.loop-i.invariant (omega arith))

pub overflow_add-above : goal.overflow_add-above
overflow_add-above c = omega (arith, rising-fits c.args.radix c.args.symbols.now c.loop-i.above c.loop-i.i c.requires.0 c.loop-i.invariant (omega arith))

pub loop-i-preserved : goal.loop-i-preserved
loop-i-preserved c = rising-turn c.args.radix c.args.symbols.now c.loop-i.above c.loop-i.i c.requires.0 c.loop-i.invariant (omega arith)

pub returns : goal.returns
returns c = above_ends (replicate (length c.args.symbols.now) c.args.radix) c.args.symbols.now c.loop-i.above c.loop-i.i c.loop-i.invariant (omega arith)
