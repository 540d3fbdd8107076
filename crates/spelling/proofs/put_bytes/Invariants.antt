-- `spelling::put_bytes` meets its contract. The invariant: the digits of the first i bytes are written, and nothing else has changed.
-- Assumes nothing.
use mathlib.Core.Path.{◌≡◌}
use Prim.Native.Nat.{◌*◌}
use lib.Seq.{paste}
use Rattle.spelling.specs.Hex.{hex_of}
use Rattle.spelling.proofs.put_bytes.Given as goal

abbrev pub invariant-loop-i : goal.invariant-loop-i
invariant-loop-i l = l.out ≡ paste l.initial.out l.at (hex_of l.bytes) (2 * l.i)
