-- `wide_rank::weighed` meets its contract. Assumes nothing.
use mathlib.Core.Path.{◌≡◌}
use Prim.Native.Nat.{◌+◌}
use lib.ListN.{drop}
use Rattle.words.specs.Rank.{rank_from, rank_of}
use Rattle.wide_rank.proofs.weighed.Given as goal

abbrev pub invariant-loop-i : goal.invariant-loop-i
invariant-loop-i l = l.sum + rank_from l.family l.i (drop l.i l.word) ≡ rank_of l.family l.word
