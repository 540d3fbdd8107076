-- `permutation_order::unranked` meets its contract: the digits passed have made the entries, and the others are left. Assumes nothing.
use mathlib.Core.Path.{◌≡◌}
use Prim.Native.Nat.{◌/◌}
use Rattle.words.specs.Factorial.{factorial}
use Rattle.permutation.specs.Record.{record_of}
use Rattle.permutation_order.specs.Rules.{held}
use Rattle.permutation_order.proofs.Making.{made}
use Rattle.permutation_order.proofs.unranked.Given as goal

abbrev pub invariant-loop-j : goal.invariant-loop-j
invariant-loop-j l = (held l.entries l.j ≡ record_of (made l.j l.r)) × (l.rest ≡ l.r / factorial l.j)
