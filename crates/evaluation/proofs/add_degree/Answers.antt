-- `evaluation::add_degree` meets its contract. The invariant: what is left to add from rank j on gives what was asked for. Assumes nothing.
use mathlib.Core.Path.{sym, ◌∙◌}
use native.Mathlib.Omega.{arith}
use native.Mathlib.Nat.{le_antisymm}
use native.Mathlib.Numerals.{unary_clauses}
use Rattle.evaluation.proofs.Turns.{one_term, no_term}
use Rattle.evaluation.proofs.add_degree.Goals as goal

pub loop-j-init : goal.loop-j-init
loop-j-init c = simp unary_clauses

pub loop-j-preserved : goal.loop-j-preserved
loop-j-preserved c = rw (c.of_bits-c.ensures, c.eight.ensures) (one_term _ _ _ _ _ _ (omega arith) ∙ c.loop-j.invariant)

pub returns : goal.returns
returns c = sym (no_term _ _ _ _ _) ∙ rw (le_antisymm c.loop-j.auto.j-end (omega arith)) at c.loop-j.invariant
