-- `digits_algebra::stabilizer_of` meets its contract, by the laws of `Counting`. Assumes nothing.
use mathlib.Core.Path.{sym, ◌∙◌}
use Prim.Native.Nat.{◌^◌}
use native.Mathlib.Omega.{arith}
use borrow.Author.Tests.{leb-true, leb-false, le-leb, lt-leb}
use Rattle.digits_algebra.proofs.Counting.{multiplied_starts, multiplied-turn, multiplied-past, multiplied_ends}
use Rattle.digits_algebra.proofs.stabilizer_of.Goals as goal

pub loop-i-init : goal.loop-i-init
loop-i-init c = multiplied_starts c.args.word.now c.args.upto

pub returns-then-exceeds : goal.returns-then-exceeds
returns-then-exceeds c =
    simp (le-leb _ _ (multiplied-past c.args.word.now c.args.upto c.loop-i.product c.loop-i.i c.occurrences-times.result c.requires (omega arith) c.loop-i.invariant c.occurrences-times.ensures (leb-true (2 ^ 64) _ (sym c.exceeds.ensures ∙ c.if-exceeds.true))))

pub loop-i-preserved : goal.loop-i-preserved
loop-i-preserved c =
    multiplied-turn c.args.word.now c.args.upto c.loop-i.product c.loop-i.i c.occurrences-times.result c.requires (omega arith) c.loop-i.invariant c.occurrences-times.ensures
    (leb-false (2 ^ 64) _ (sym c.exceeds.ensures ∙ c.if-exceeds.false))

pub returns : goal.returns
returns c =
    let e = multiplied_ends c.args.word.now c.args.upto c.loop-i.product c.loop-i.i c.loop-i.invariant (omega arith) in
    simp (sym e, lt-leb _ _ c.loop-i.invariant.small)
