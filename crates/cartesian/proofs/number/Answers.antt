-- `cartesian::number` meets its contract. The invariant: the number of the digits from axis i up. Assumes nothing.
use Prim.Native.Nat.{◌+◌, ◌*◌, ◌-◌}
use native.Mathlib.Omega.{arith}
use lib.ListN.{get_or}
use Rattle.positional.proofs.Digits.{digits_long, number_below}
use Rattle.cartesian.proofs.Tuples.{above_starts, above_turn, above_fits, above_ends}
use Rattle.cartesian.proofs.number.Goals as goal

pub loop-i-init : goal.loop-i-init
loop-i-init c = above_starts c.args.radices.now c.args.digits.now

pub overflow_mul-above : goal.overflow_mul-above
overflow_mul-above c =
    omega (
      arith,
      above_fits c.args.radices.now c.args.digits.now (c.loop-i.above * get_or c.args.radices.now (c.loop-i.i - 1) 0 + get_or c.args.digits.now (c.loop-i.i - 1) 0) (c.loop-i.i - 1) c.requires.0 (above_turn c.args.radices.now c.args.digits.now c.loop-i.above c.loop-i.i c.requires.0 c.loop-i.invariant (omega arith)),
      number_below c.args.radices.now c.args.digits.now c.requires.0,
    )

pub bounds-digits-i : goal.bounds-digits-i
bounds-digits-i c = omega (arith, c.loop-i.invariant.axes, digits_long c.args.radices.now c.args.digits.now c.requires.0)

pub overflow_add-above : goal.overflow_add-above
overflow_add-above c =
    omega (
      arith,
      above_fits c.args.radices.now c.args.digits.now (c.loop-i.above * get_or c.args.radices.now (c.loop-i.i - 1) 0 + get_or c.args.digits.now (c.loop-i.i - 1) 0) (c.loop-i.i - 1) c.requires.0 (above_turn c.args.radices.now c.args.digits.now c.loop-i.above c.loop-i.i c.requires.0 c.loop-i.invariant (omega arith)),
      number_below c.args.radices.now c.args.digits.now c.requires.0,
    )

pub loop-i-preserved : goal.loop-i-preserved
loop-i-preserved c =
    above_turn c.args.radices.now c.args.digits.now c.loop-i.above c.loop-i.i c.requires.0 c.loop-i.invariant (omega arith)

pub returns : goal.returns
returns c =
    above_ends c.args.radices.now c.args.digits.now c.loop-i.above c.loop-i.i c.loop-i.invariant (omega arith)
