-- `packing::spell` meets its contract, by the laws of `Spelling`. Assumes nothing.
use native.Mathlib.Omega.{arith}
use borrow.Author.Rules.{rules}
use lib.Count.{ones-le}
use Rattle.words.proofs.Bits.{set_bits_long}
use Rattle.packing.proofs.Symbols.{next_place, still_some, none_left}
use Rattle.packing.proofs.Spelling.{spelling_starts, spelling_turn, spelling_ends}
use Rattle.packing.proofs.spell.Goals as goal

pub loop-i-init : goal.loop-i-init
loop-i-init c = spelling_starts c.args.f c.args.bits c.args.out.now

pub overflow_sub-out : goal.overflow_sub-out
overflow_sub-out c =
    (next_place c.args.f c.args.bits c.loop-i.left c.loop-i.i c.lowest.result c.shift.result c.loop-i.invariant.set (still_some c.args.bits c.loop-i.left c.loop-i.i c.loop-i.invariant.set (omega (arith, c.loop-i-test.true, c.count_ones-i-end.ensures))) c.lowest.ensures c.shift.ensures
    ).taken

pub offset_bounds-out-i : goal.offset_bounds-out-i
offset_bounds-out-i c = omega (arith, c.loop-i-test.true, c.count_ones-i-end.ensures, ones-le 64 c.args.bits (search rules), set_bits_long c.args.bits)

pub bounds-out-i : goal.bounds-out-i
bounds-out-i c = omega (arith, c.loop-i-test.true, c.count_ones-i-end.ensures, c.loop-i.invariant.filled.long)

pub loop-i-preserved : goal.loop-i-preserved
loop-i-preserved c =
    spelling_turn c.args.f c.args.bits c.args.out.now c.loop-i.out c.loop-i.left c.loop-i.i c.lowest.result c.shift.result c.without_lowest-left.result c.loop-i.invariant
    (next_place c.args.f c.args.bits c.loop-i.left c.loop-i.i c.lowest.result c.shift.result c.loop-i.invariant.set (still_some c.args.bits c.loop-i.left c.loop-i.i c.loop-i.invariant.set (omega (arith, c.loop-i-test.true, c.count_ones-i-end.ensures))) c.lowest.ensures c.shift.ensures)
    c.requires c.without_lowest-left.ensures

pub shape_of-out : goal.shape_of-out
shape_of-out c = c.loop-i.invariant.filled.long

pub returns : goal.returns
returns c =
    spelling_ends c.args.f c.args.bits c.args.out.now c.loop-i.out c.loop-i.left c.loop-i.i c.loop-i.invariant (none_left c.args.bits c.loop-i.left c.loop-i.i c.loop-i.invariant.set (omega (arith, c.loop-i-test.false, c.count_ones-i-end.ensures))) c.requires
