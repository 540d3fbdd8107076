-- `spelling::bytes` meets its contract. The invariant: of the bytes that the text writes the first i are in their places, and nothing else has changed.
-- Assumes nothing.
use mathlib.Core.Path.{◌≡◌, ◌∙◌}
use native.Mathlib.Omega.{arith}
use lib.ListN.{length}
use lib.Seq.{paste-zero}
use Rattle.spelling.proofs.Pairs.{byte_stored, all_stored, bytes-many}
use Rattle.spelling.proofs.bytes.Goals as goal

pub loop-i-init : goal.loop-i-init
loop-i-init c = λ bs s h. paste-zero _ 0 bs

pub loop-i-preserved : goal.loop-i-preserved
loop-i-preserved c = λ bs s h. byte_stored _ _ _ bs _ _ s h (omega arith) (c.loop-i.invariant bs s h) c.byte.ensures

pub returns : goal.returns
returns c =
    record {
      within = omega arith;
      says = λ bs s h.
          let all : c.min-n.result ≡ length bs = omega (arith, bytes-many _ bs s) in
          record { many = all; first = c.loop-i.invariant bs s h ∙ all_stored _ bs c.loop-i.i (omega arith) };
    }
