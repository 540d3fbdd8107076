-- `combination::select` meets its contract, by the laws of `Selecting`. The measure is how many symbols are left: at most 64 turns.
-- Assumes nothing.
use lib.ListN.{length}
use Rattle.words.specs.Bits.{set_bits}
use Rattle.combination.proofs.Selecting.{Selecting}
use Rattle.combination.proofs.select.Given as goal

abbrev pub invariant-loop-wanted : goal.invariant-loop-wanted
invariant-loop-wanted l = Selecting l.set l.positions l.left l.wanted l.chosen

abbrev pub decreases-loop-wanted : goal.decreases-loop-wanted
decreases-loop-wanted l = length (set_bits l.left)
