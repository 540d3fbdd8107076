-- `raising::write_next` meets its contract: one symbol a turn. Assumes nothing.
use Rattle.answers.proofs.Lent.{Filled}
use Rattle.raising.specs.Raised.{next_at}
use Rattle.raising.proofs.write_next.Given as goal

abbrev pub invariant-loop-j : goal.invariant-loop-j
invariant-loop-j l = Filled (next_at l.family l.word l.r) l.initial.out l.out l.j
