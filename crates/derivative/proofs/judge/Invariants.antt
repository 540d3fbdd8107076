-- `derivative::judge` meets its contract: the walk stands at the word of each rank in turn, and every entry passed is in the range. Assumes nothing.
use mathlib.Core.Path.{◌≡◌}
use mathlib.Core.Bool.{true}
use Prim.Native.Nat.{◌+◌}
use Rattle.words.specs.declared.Family.TheVariants.{Allowed}
use Rattle.words.specs.Unrank.{unrank_of}
use Rattle.adding.specs.Places.{Placed}
use Rattle.derivative.specs.Rules.{entry_at, all_inside}
use Rattle.derivative.proofs.judge.Given as goal

abbrev pub invariant-loop-r : goal.invariant-loop-r
invariant-loop-r l = (l.last + 1 ≡ l.m) × (all_inside (entry_at l.k l.s l.table) l._r ≡ true) × Placed l.s (unrank_of Allowed l.k l._r) l.x.bits l.x.rank l.x.times
