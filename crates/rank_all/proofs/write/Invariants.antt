-- `rank_all::write` meets its contract: the places passed hold the ranks. Assumes nothing.
use lib.ListN.{get_or}
use Rattle.answers.proofs.Lent.{Filled}
use Rattle.rank_all.specs.Rules.{set_ranks}
use Rattle.rank_all.proofs.write.Given as goal

abbrev pub invariant-loop-i : goal.invariant-loop-i
invariant-loop-i l = Filled (λ k. get_or (set_ranks l.bits) k 0) l.initial.out l.out l.i
