-- `pieces::keep` meets its contract. Assumes nothing.
use mathlib.Core.Path.{◌≡◌, ap, ◌∙◌}
use mathlib.Core.List.{List}
use Prim.Native.Nat.{ℕ, suc, ◌+◌}
use native.Mathlib.Omega.{arith}
use borrow.Author.Rules.{rules}
use lib.ListN.{get_or, length, set}
use lib.Seq.{paste, paste-zero, paste-suc}
use Rattle.pieces.proofs.Keeping.{room_fits}
use Rattle.pieces.proofs.keep.Goals as goal

pub loop-i-init : goal.loop-i-init
loop-i-init c = paste-zero c.args.bytes c.args.at c.args.piece.now

pub bounds-piece-i : goal.bounds-piece-i
bounds-piece-i c = let q = room_fits c.args.at (length c.args.piece.now) c.loop-i.i (omega (arith, c.room-n.ensures, c.loop-i-test.true)) in omega (arith, q.1)

pub overflow_add-kept : goal.overflow_add-kept
overflow_add-kept c = let q = room_fits c.args.at (length c.args.piece.now) c.loop-i.i (omega (arith, c.room-n.ensures, c.loop-i-test.true)) in omega (arith, q.0)

pub bounds-kept-at : goal.bounds-kept-at
bounds-kept-at c = let q = room_fits c.args.at (length c.args.piece.now) c.loop-i.i (omega (arith, c.room-n.ensures, c.loop-i-test.true)) in q.0

pub loop-i-preserved : goal.loop-i-preserved
loop-i-preserved c =
    let q = room_fits c.args.at (length c.args.piece.now) c.loop-i.i (omega (arith, c.room-n.ensures, c.loop-i-test.true)) in
    ap (λ (k : List ℕ). set k (c.args.at + c.loop-i.i) (get_or c.args.piece.now c.loop-i.i 0)) c.loop-i.invariant
    ∙ paste-suc c.args.bytes c.args.at c.args.piece.now c.loop-i.i 0 (let e : length c.args.bytes ≡ 772 = search rules in omega (arith, q.0, e)) q.1
    ∙ ap (paste c.args.bytes c.args.at c.args.piece.now) (let e : suc c.loop-i.i ≡ c.loop-i.i + 1 = omega arith in e)

pub returns : goal.returns
returns c = c.loop-i.invariant ∙ ap (paste c.args.bytes c.args.at c.args.piece.now) (let e : c.loop-i.i ≡ c.room-n.result = omega (arith, c.loop-i.auto.i-end, c.loop-i-test.false) in e ∙ c.room-n.ensures)
