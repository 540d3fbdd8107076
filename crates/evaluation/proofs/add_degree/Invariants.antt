-- `evaluation::add_degree` meets its contract. The invariant: what is left to add from rank j on gives what was asked for. Assumes nothing.
use mathlib.Core.Path.{◌≡◌}
use Prim.Native.Nat.{◌+◌, ◌-◌, ◌*◌}
use Rattle.surface.specs.Mass.{add_terms}
use Rattle.surface.specs.Surface.{numbers_at}
use Rattle.evaluation.specs.Rows.{from_row}
use Rattle.evaluation.proofs.add_degree.Given as goal

abbrev pub invariant-loop-j : goal.invariant-loop-j
invariant-loop-j l = add_terms (from_row l.row l.k) l.j (numbers_at l.image (l.at + 8 * l.j) (l.k + 1 - l.j)) l.sum ≡ add_terms (from_row l.row l.k) 0 (numbers_at l.image l.at (l.k + 1)) l.sum-2
