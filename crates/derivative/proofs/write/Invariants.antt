-- `derivative::write` meets its contract: the walk stands at the word of each rank in turn, and one entry is written a turn. Assumes nothing.
use mathlib.Core.Path.{◌≡◌}
use mathlib.Core.List.{◌++◌}
use Prim.Native.Nat.{◌+◌}
use lib.ListN.{drop}
use Rattle.words.specs.declared.Family.TheVariants.{Allowed}
use Rattle.words.specs.Unrank.{unrank_of}
use Rattle.derivatives.specs.Derivative.{entries_of}
use Rattle.adding.specs.Places.{Placed}
use Rattle.derivative.specs.Rules.{entry_at}
use Rattle.derivative.proofs.write.Given as goal

abbrev pub invariant-loop-r : goal.invariant-loop-r
invariant-loop-r l = (l.last + 1 ≡ l.m) × (l.out ≡ entries_of (entry_at l.k l.s l.table) l.r ++ drop l.r l.initial.out) × Placed l.s (unrank_of Allowed l.k l.r) l.x.bits l.x.rank l.x.times
