-- `permutation_order::weight` meets its contract: the sum is what the places passed weigh. Assumes nothing.
use mathlib.Core.Path.{◌≡◌}
use lib.ListN.{take}
use Rattle.words.specs.Bits.{bits_of}
use Rattle.words.specs.Factorial.{factorial}
use Rattle.arrangements.specs.Rank.{rank_up_to}
use Rattle.permutation.specs.Record.{arrangement_of}
use Rattle.permutation_order.proofs.weight.Given as goal

abbrev pub invariant-loop-j : goal.invariant-loop-j
invariant-loop-j l = (l.seen ≡ bits_of (take l.j (arrangement_of l.p))) × (l.factorial ≡ factorial l.j) × (l.sum ≡ rank_up_to (arrangement_of l.p) l.j)
