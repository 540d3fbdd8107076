-- `raising::write_next` meets its contract: one symbol a turn. Assumes nothing.
use mathlib.Core.Path.{◌≡◌, subst}
use native.Mathlib.Omega.{arith}
use lib.ListN.{length}
use Rattle.answers.proofs.Lent.{Filled, fill_none, fill_more, filled-word}
use Rattle.raising.specs.Raised.{raised_at, next_at}
use Rattle.raising.proofs.Raises.{raised_long, raised_at_lem}
use Rattle.raising.proofs.write_next.Goals as goal

pub loop-j-init : goal.loop-j-init
loop-j-init c = fill_none (next_at c.args.family c.args.word.now c.args.r) c.args.out.now

pub next_symbol-requires : goal.next_symbol-requires
next_symbol-requires c = (c.requires.0, omega arith)

pub offset_bounds-out-j : goal.offset_bounds-out-j
offset_bounds-out-j c = omega arith

pub bounds-out-j : goal.bounds-out-j
bounds-out-j c = omega (arith, c.loop-j.invariant.long, c.requires.1)

pub loop-j-preserved : goal.loop-j-preserved
loop-j-preserved c = fill_more (next_at c.args.family c.args.word.now c.args.r) c.args.out.now c.loop-j.out c.loop-j.j c.next_symbol.result (omega (arith, c.requires.1)) c.next_symbol.ensures c.loop-j.invariant

pub shape_of-out : goal.shape_of-out
shape_of-out c = c.loop-j.invariant.long

pub returns : goal.returns
returns c =
    let l : length (raised_at c.args.family c.args.word.now c.args.r) ≡ length c.args.word.now = raised_long c.args.family c.args.word.now c.args.r c.requires.0.some c.requires.0.within in
    let e : c.loop-j.j ≡ length (raised_at c.args.family c.args.word.now c.args.r) = omega arith in
    filled-word (next_at c.args.family c.args.word.now c.args.r) c.args.out.now c.loop-j.out (raised_at c.args.family c.args.word.now c.args.r) (omega (arith, c.requires.1))
    (λ j h. raised_at_lem c.args.family c.args.word.now c.args.r c.requires.0.some c.requires.0.within j (omega arith))
    (subst (Filled (next_at c.args.family c.args.word.now c.args.r) c.args.out.now c.loop-j.out) e c.loop-j.invariant)
