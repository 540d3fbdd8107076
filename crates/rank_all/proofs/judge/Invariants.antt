-- `rank_all::judge` meets its contract. The invariant: what is left of the list decides. Assumes nothing.
use mathlib.Core.Path.{◌≡◌}
use mathlib.Core.List.{List}
use Prim.Native.Nat.{ℕ}
use lib.ListN.{drop}
use Rattle.answers.specs.Says.{Says}
use Rattle.rank_all.specs.Rules.{judged_from}
use Rattle.rank_all.proofs.judge.Given as goal

abbrev pub invariant-loop-i : goal.invariant-loop-i
invariant-loop-i l = (s : Says (List ℕ)) → judged_from l.family l.n 0 l.bits s ≡ judged_from l.family l.n l.i (drop l.i l.bits) s
