-- `spelling::bytes` meets its contract. The invariant: of the bytes that the text writes the first i are in their places, and nothing else has changed.
-- Assumes nothing.
use mathlib.Core.Path.{◌≡◌}
use mathlib.Core.List.{List}
use Prim.Native.Nat.{ℕ, ◌≤◌}
use lib.ListN.{length}
use lib.Seq.{paste}
use Rattle.spelling.specs.Hex.{SpellsBytes}
use Rattle.spelling.proofs.bytes.Given as goal

abbrev pub invariant-loop-i : goal.invariant-loop-i
invariant-loop-i l = (bs : List ℕ) → SpellsBytes l.text bs → length bs ≤ length l.initial.out → l.out ≡ paste l.initial.out 0 bs l.i
