-- `evaluation::highest` meets its contract. The invariant: top is the highest degree of the rows passed. Assumes nothing.
use mathlib.Core.Path.{◌∙◌, ap}
use Prim.Native.Nat.{ℕ, max}
use native.Mathlib.Nat.{le_antisymm}
use Rattle.evaluation.specs.Rows.{highest_degree}
use Rattle.evaluation.proofs.Turns.{highest_none, highest_more}
use Rattle.evaluation.proofs.highest.Goals as goal

pub loop-i-init : goal.loop-i-init
loop-i-init c = highest_none _

pub loop-i-preserved : goal.loop-i-preserved
loop-i-preserved c = c.max-top.ensures ∙ ap (λ (x : ℕ). max x c.wide-degree.result) c.loop-i.invariant ∙ ap (λ (x : ℕ). max (highest_degree c.args.image.now c.loop-i.i) x) c.wide-degree.ensures.0 ∙ highest_more c.args.image.now c.loop-i.i

pub returns : goal.returns
returns c = c.loop-i.invariant ∙ ap (highest_degree c.args.image.now) (le_antisymm c.loop-i.auto.i-end c.loop-i-test.false)
