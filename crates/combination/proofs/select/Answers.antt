-- `combination::select` meets its contract, by the laws of `Selecting`. The measure is how many symbols are left: at most 64 turns.
-- Assumes nothing.
use mathlib.Core.Path.{sym, ap, subst, ◌∙◌}
use mathlib.Core.Logic.{⊎_elim}
use native.Mathlib.Omega.{arith}
use Rattle.words.specs.Bits.{set_bits}
use Rattle.bits.specs.Member.{reaches}
use Rattle.combination.proofs.Selecting.{Selecting, selecting_starts, rest-within, rest-shorter, selecting-turn, selecting-skips, selecting-ends}
use Rattle.combination.proofs.select.Goals as goal
use Rattle.combination.proofs.select.Goals.{then-wanted-eq1, else-wanted-eq1}

pub returns-then-reaches : goal.returns-then-reaches
returns-then-reaches c = simp (sym c.count_ones.ensures, sym c.reaches.ensures, c.if-reaches.true)

pub loop-wanted-init : goal.loop-wanted-init
loop-wanted-init c =
    selecting_starts c.args.set c.args.positions
    (ap (λ n. reaches n (set_bits c.args.positions)) (sym c.count_ones.ensures) ∙ sym c.reaches.ensures ∙ c.if-reaches.false)

pub overflow_sub-chosen : goal.overflow_sub-chosen
overflow_sub-chosen c = rest-within c.loop-wanted.invariant c.without_lowest-rest.result (omega arith) c.without_lowest-rest.ensures

pub overflow_add-chosen : goal.overflow_add-chosen
overflow_add-chosen c = omega (arith, c.loop-wanted.invariant.room, c.ranges)

pub loop-wanted-smaller : goal.loop-wanted-smaller
loop-wanted-smaller c = rest-shorter c.loop-wanted.invariant c.without_lowest-rest.result (omega arith) c.without_lowest-rest.ensures

pub loop-wanted-preserved : goal.loop-wanted-preserved
loop-wanted-preserved c = elim c.if-wanted-eq1.branch [
  | then-wanted-eq1 w ↦ subst (Selecting _ _ _ _) (sym w.chosen-is) (selecting-turn c.loop-wanted.invariant c.without_lowest-rest.result (omega arith) c.without_lowest-rest.ensures w.if-wanted-eq1.true)
  | else-wanted-eq1 w ↦ subst (Selecting _ _ _ _) (sym w.chosen-is) (selecting-skips c.loop-wanted.invariant c.without_lowest-rest.result (omega arith) c.without_lowest-rest.ensures w.if-wanted-eq1.false)
]

pub returns : goal.returns
returns c =
    simp (
      sym c.count_ones.ensures,
      sym c.reaches.ensures,
      c.if-reaches.false,
      selecting-ends c.loop-wanted.invariant (omega arith),
    )
