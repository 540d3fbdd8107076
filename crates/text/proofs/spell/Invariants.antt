-- `text::spell` meets its contract. The invariant: the places from i on hold the last digits of n, rest is what the digits before them write, and there is room for those.
-- Assumes nothing.
use Prim.Native.Nat.{◌^◌, ◌<◌}
use lib.ListN.{drop}
use Rattle.text.proofs.Value.{Spelled}
use Rattle.text.proofs.spell.Given as goal

abbrev pub invariant-loop-i : goal.invariant-loop-i
invariant-loop-i l = (l.rest < 10 ^ l.i) × Spelled l.rest (drop l.i l.text) l.n
