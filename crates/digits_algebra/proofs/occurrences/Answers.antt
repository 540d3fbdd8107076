-- `digits_algebra::occurrences` meets its contract. The invariant: how often the symbol has occurred. Assumes nothing.
use mathlib.Core.Path.{refl, ap, ◌∙◌}
use native.Mathlib.Omega.{arith}
use lib.ListN.{take}
use lib.Seq.{take_all}
use Rattle.words.specs.Inversions.{multiplicity}
use Rattle.digits_algebra.proofs.Counting.{counted_turn}
use Rattle.digits_algebra.proofs.occurrences.Goals as goal
use Rattle.std.proofs.Common.{inl, inr}
use Rattle.digits_algebra.proofs.occurrences.Goals.{then-x-s, else-x-s}

pub loop-x-init : goal.loop-x-init
unfolding multiplicity
loop-x-init c = (omega arith, refl)

pub loop-x-preserved : goal.loop-x-preserved
loop-x-preserved c = (
  elim c.if-x-s.branch [ then-x-s w ↦ omega arith | else-x-s w ↦ omega arith ],
  counted_turn (take c.args.upto c.args.word.now) c.args.s c.loop-x.x-index c.loop-x.n c.if-x-s.n c.loop-x-test.true c.loop-x.invariant.1
      (elim c.if-x-s.branch [ then-x-s w ↦ inl (w.if-x-s.true, w.n-is) | else-x-s w ↦ inr (w.if-x-s.false, w.n-is) ]),
)

pub returns : goal.returns
returns c = c.loop-x.invariant.1 ∙ ap (multiplicity c.args.s) (take_all c.loop-x.x-index (take c.args.upto c.args.word.now) c.loop-x-test.false)
