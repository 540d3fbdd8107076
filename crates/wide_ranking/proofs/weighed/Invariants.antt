-- `wide_ranking::weighed` meets its contract. Assumes nothing.
use mathlib.Core.Path.{◌≡◌}
use Prim.Native.Nat.{ℕ, ◌+◌}
use lib.ListN.{length}
use Rattle.words.specs.declared.Family.TheVariants.{Forbidden}
use Rattle.words.specs.Rank.{rank_of}
use Rattle.words.specs.Bits.{set_bits}
use Rattle.seam.specs.Joined.{joined}
use Rattle.wide_ranking.proofs.Weighing.{Weighing}
use Rattle.wide_ranking.proofs.weighed.Given as goal

abbrev pub total : ℕ → ℕ → ℕ
total l h = rank_of Forbidden (set_bits (joined 64 l h))

abbrev pub invariant-loop-i : goal.invariant-loop-i
invariant-loop-i l = Weighing 64 (total l.low l.high) l.sum l.i l.left × (l.i + length (set_bits l.left) ≡ l.i-end)
