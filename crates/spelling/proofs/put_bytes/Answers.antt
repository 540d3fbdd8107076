-- `spelling::put_bytes` meets its contract. The invariant: the digits of the first i bytes are written, and nothing else has changed.
-- Assumes nothing.
use mathlib.Core.Path.{◌≡◌, ap, ◌∙◌}
use Prim.Native.Nat.{ℕ, ◌*◌}
use native.Mathlib.Omega.{arith}
use lib.ListN.{length}
use lib.Seq.{paste, paste-zero}
use Rattle.spelling.specs.Hex.{hex_of}
use Rattle.spelling.proofs.Writing.{pair-stored, none-put, pairs-put, pairs-full, past-full}
use Rattle.spelling.proofs.put_bytes.Goals as goal

pub returns-then-bytes-eq0 : goal.returns-then-bytes-eq0
returns-then-bytes-eq0 c = none-put c.args.out.now c.args.bytes.now c.args.at _ _ c.if-bytes-eq0.true c.put_byte.ensures

pub returns-then-at-out : goal.returns-then-at-out
returns-then-at-out c = past-full c.args.out.now c.args.bytes.now c.args.at c.if-bytes-eq0.false (omega arith)

pub returns-then-bytes-out : goal.returns-then-bytes-out
returns-then-bytes-out c = pairs-full c.args.out.now c.args.bytes.now c.args.at c.if-bytes-eq0.false (omega arith) (omega arith)

pub loop-i-init : goal.loop-i-init
loop-i-init c = paste-zero _ c.args.at (hex_of c.args.bytes.now)

pub loop-i-preserved : goal.loop-i-preserved
loop-i-preserved c = pair-stored _ _ _ _ _ _ _ (omega arith) (omega arith) c.loop-i.invariant c.high.ensures c.low.ensures

pub returns : goal.returns
returns c =
    let all : c.loop-i.i ≡ length c.args.bytes.now = omega arith in
    pairs-put c.args.out.now c.args.bytes.now c.args.at _ c.if-bytes-eq0.false (omega arith) (c.loop-i.invariant ∙ ap (λ (k : ℕ). paste c.args.out.now c.args.at (hex_of c.args.bytes.now) (2 * k)) all)
