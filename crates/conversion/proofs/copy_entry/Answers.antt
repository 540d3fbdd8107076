-- `conversion::copy_entry` meets its contract: the eight bytes are read, and then written, one after the other. Assumes nothing.
use Rattle.std.proofs.Common.{◌*◌, arith, length-set}
use Rattle.conversion.proofs.Copying.{copied-eight}
use Rattle.conversion.proofs.copy_entry.Goals as goal

pub bounds-out-t-2 : goal.bounds-out-t-2
bounds-out-t-2 c = simp length-set (omega (arith, c.requires.1))

pub bounds-out-t-3 : goal.bounds-out-t-3
bounds-out-t-3 c = simp length-set (omega (arith, c.requires.1))

pub bounds-out-t-4 : goal.bounds-out-t-4
bounds-out-t-4 c = simp length-set (omega (arith, c.requires.1))

pub bounds-out-t-5 : goal.bounds-out-t-5
bounds-out-t-5 c = simp length-set (omega (arith, c.requires.1))

pub bounds-out-t-6 : goal.bounds-out-t-6
bounds-out-t-6 c = simp length-set (omega (arith, c.requires.1))

pub bounds-out-t-7 : goal.bounds-out-t-7
bounds-out-t-7 c = simp length-set (omega (arith, c.requires.1))

pub bounds-out-t-8 : goal.bounds-out-t-8
bounds-out-t-8 c = simp length-set (omega (arith, c.requires.1))

pub shape_of-out : goal.shape_of-out
shape_of-out c = simp length-set

pub returns : goal.returns
returns c = copied-eight c.args.out.now c.args.from.now (8 * c.args.j) (8 * c.args.i) c.requires.1 c.requires.0
