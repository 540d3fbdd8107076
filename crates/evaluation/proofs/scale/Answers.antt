-- `evaluation::scale` meets its contract: when a is next, the first a numbers are scaled. Assumes nothing.
use native.Mathlib.Omega.{arith}
use native.Mathlib.Nat.{le_antisymm}
use Rattle.evaluation.proofs.Scaling.{scaled_none, scaled_more}
use Rattle.evaluation.proofs.scale.Goals as goal

pub loop-a-init : goal.loop-a-init
loop-a-init c = scaled_none _ _

pub loop-a-preserved : goal.loop-a-preserved
loop-a-preserved c = scaled_more _ _ _ _ (omega arith) c.loop-a.invariant

pub returns : goal.returns
returns c = rw (← le_antisymm c.loop-a.auto.a-end c.loop-a-test.false) c.loop-a.invariant
