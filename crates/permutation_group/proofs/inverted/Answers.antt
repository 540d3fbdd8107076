-- `permutation_group::inverted` meets its contract: each entry passed has its place stored. Assumes nothing.
use native.Mathlib.Omega.{arith}
use Rattle.arrangements.specs.Permutation.{inverse}
use Rattle.arrangements.proofs.Group.{inverse-long}
use Rattle.permutation.specs.Record.{arrangement_of}
use Rattle.permutation.proofs.Taken.{word_at, holds_below}
use Rattle.permutation.proofs.Filled.{invert_more, inverted_all, filled_record}
use Rattle.permutation_group.proofs.inverted.Goals as goal

pub offset_bounds-places-x : goal.offset_bounds-places-x
offset_bounds-places-x c =
    omega (arith, c.requires.short, holds_below c.args.p.now c.requires c.loop-i.i c.loop-i-test.true)

pub bounds-places-x : goal.bounds-places-x
bounds-places-x c =
    omega (arith, c.requires.short, holds_below c.args.p.now c.requires c.loop-i.i c.loop-i-test.true)

pub loop-i-preserved : goal.loop-i-preserved
loop-i-preserved c =
    rw (word_at c.args.p.now c.loop-i.i c.loop-i-test.true) at (invert_more (arrangement_of c.args.p.now) c.args.p.now.len c.loop-i.i c.loop-i.places c.requires.permutation c.requires.short c.loop-i-test.true c.loop-i.invariant)

pub returns : goal.returns
returns c =
    filled_record (inverse (arrangement_of c.args.p.now)) c.loop-i.places c.args.p.now.len c.args.p.now.len
    (inverted_all (arrangement_of c.args.p.now) c.args.p.now.len c.loop-i.i c.loop-i.places c.requires.permutation c.loop-i-test.false c.loop-i.invariant) (omega arith)
    (inverse-long c.args.p.now.len (arrangement_of c.args.p.now) c.requires.permutation) c.requires.short
