-- `digits::write_symbols` meets its contract, as the digits of a shape of equal radices are written. Assumes nothing.
use native.Mathlib.Omega.{arith}
use lib.ListN.{replicate}
use Rattle.cartesian.proofs.Writing.{spelling_starts}
use Rattle.digits.proofs.Powers.{radix_positive}
use Rattle.digits.proofs.Positions.{writing_turn, writing_ends}
use Rattle.digits.proofs.write_symbols.Goals as goal

pub loop-i-init : goal.loop-i-init
loop-i-init c = spelling_starts (replicate c.args.degree c.args.radix) c.args.rank c.args.out.now

pub nonzero_rem-out : goal.nonzero_rem-out
nonzero_rem-out c = radix_positive c.args.radix c.args.degree c.args.rank c.loop-i.i c.requires.0 (omega arith)

pub nonzero_div-left : goal.nonzero_div-left
nonzero_div-left c = radix_positive c.args.radix c.args.degree c.args.rank c.loop-i.i c.requires.0 (omega arith)

pub loop-i-preserved : goal.loop-i-preserved
loop-i-preserved c =
    writing_turn c.args.radix c.args.degree c.args.rank c.args.out.now c.loop-i.out c.loop-i.left c.loop-i.i c.loop-i.invariant (omega arith) c.requires.1

pub returns : goal.returns
returns c =
    writing_ends c.args.radix c.args.degree c.args.rank c.args.out.now c.loop-i.out c.loop-i.left c.loop-i.i c.loop-i.invariant (omega arith) c.requires.1
