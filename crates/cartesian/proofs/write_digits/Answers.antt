-- `cartesian::write_digits` meets its contract, by the laws of `Spelling`. Assumes nothing.
use native.Mathlib.Omega.{arith}
use Rattle.positional.proofs.Strides.{radix_pos}
use Rattle.cartesian.proofs.Writing.{spelling_starts, spelling_turn, spelling_ends}
use Rattle.cartesian.proofs.write_digits.Goals as goal

pub loop-i-init : goal.loop-i-init
loop-i-init c = spelling_starts c.args.radices.now c.args.x c.args.out.now

pub nonzero_rem-out : goal.nonzero_rem-out
nonzero_rem-out c = radix_pos c.args.radices.now c.loop-i.i (omega arith) (omega arith)

pub nonzero_div-left : goal.nonzero_div-left
nonzero_div-left c = radix_pos c.args.radices.now c.loop-i.i (omega arith) (omega arith)

pub loop-i-preserved : goal.loop-i-preserved
loop-i-preserved c =
    spelling_turn c.args.radices.now c.args.x c.args.out.now c.loop-i.out c.loop-i.left c.loop-i.i c.loop-i.invariant (omega arith) c.requires.1

pub returns : goal.returns
returns c =
    spelling_ends c.args.radices.now c.args.x c.args.out.now c.loop-i.out c.loop-i.left c.loop-i.i c.loop-i.invariant (omega arith) c.requires.1
