-- `raising::next_symbol` meets its contract. Assumes nothing.
use mathlib.Core.Path.{◌≡◌}
use mathlib.Core.Bool.{true, false}
use Prim.Native.Nat.{◌+◌, ◌-◌}
use native.Mathlib.Omega.{arith}
use borrow.Author.Tests.{lt-ltb, le-ltb}
use lib.Dec.{ltb}
use Rattle.words.proofs.Positions.{below_at}
use Rattle.raising.proofs.Raises.{base_le}
use Rattle.raising.proofs.next_symbol.Goals as goal

pub returns-then-j-r : goal.returns-then-j-r
returns-then-j-r c =
    let t : ltb (c.args.j + 1) c.args.r ≡ true = lt-ltb _ _ c.if-j-r.true in
    simp t

pub overflow_add-result : goal.overflow_add-result
overflow_add-result c = omega (arith, (below_at 64 c.args.word.now).0 c.requires.0.low (c.args.r - 1) (omega (arith, c.requires.0.some, c.requires.0.within)))

pub overflow_add-result-2 : goal.overflow_add-result-2
overflow_add-result-2 c = omega (arith, (below_at 64 c.args.word.now).0 c.requires.0.low (c.args.r - 1) (omega (arith, c.requires.0.some, c.requires.0.within)), c.base.ensures, base_le c.args.family (c.args.j + 1 - c.args.r), c.requires.1, c.requires.0.short)

pub returns : goal.returns
returns c =
    let t : ltb (c.args.j + 1) c.args.r ≡ false = le-ltb _ _ c.if-j-r.false in
    simp (t, c.base.ensures)
