-- `wide_unranking::descended` meets its contract. Assumes nothing.
use Rattle.wide_unranking.proofs.Seam.{Above}
use Rattle.wide_unranking.proofs.descended.Given as goal

abbrev pub invariant-loop-s : goal.invariant-loop-s
invariant-loop-s l = Above 64 128 l.k l.r l.s l.i l.left l.high
