-- `packing::reaches` meets its contract. The invariant: what is left of the word decides. Assumes nothing.
use mathlib.Core.Path.{◌≡◌}
use lib.ListN.{drop}
use Rattle.bits.specs.Member.{reaches}
use Rattle.packing.proofs.reaches.Given as goal

abbrev pub invariant-loop-x : goal.invariant-loop-x
invariant-loop-x l = reaches l.n l.w ≡ reaches l.n (drop l.x-index l.w)
