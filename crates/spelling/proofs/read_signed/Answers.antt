-- `spelling::read_signed` meets its contract: by the first byte, and by the number that the digits write. Assumes nothing.
use native.Mathlib.Omega.{arith}
use Rattle.spelling.proofs.Minus.{kept, no-numeral, plain-bad, plain-great, plain-is, minus-bad, minus-zero, minus-great, minus_is}
use Rattle.spelling.proofs.read_signed.Goals as goal

pub returns-then-word-eq0 : goal.returns-then-word-eq0
returns-then-word-eq0 c = no-numeral _ c.if-word-eq0.true

pub returns-in_err-n : goal.returns-in_err-n
returns-in_err-n c = rw c.from_residual.ensures (plain-bad _ c.if-word-ne45.true _ c.in_err-n.was c.read_number.ensures)

pub returns-then-n-gt9223372036854775807 : goal.returns-then-n-gt9223372036854775807
returns-then-n-gt9223372036854775807 c = plain-great _ c.if-word-ne45.true _ _ c.in_ok-n.was c.read_number.ensures (omega arith)

pub returns-then-word-ne45 : goal.returns-then-word-ne45
returns-then-word-ne45 c = plain-is _ _ _ _ c.in_ok-n.was c.read_number.ensures (omega arith) (kept _ _ c.positive.ensures (omega arith))

pub returns-in_err-n-2 : goal.returns-in_err-n-2
returns-in_err-n-2 c = rw c.from_residual-in_err-n-2.ensures (minus-bad _ (omega arith) c.if-word-ne45.false _ c.in_err-n-2.was c.read_number-2.ensures)

pub returns-then-n-eq0 : goal.returns-then-n-eq0
returns-then-n-eq0 c = minus-zero _ (omega arith) c.if-word-ne45.false _ _ c.in_ok-n-2.was c.read_number-2.ensures c.if-n-eq0.true

pub returns-then-n-gt9223372036854775808 : goal.returns-then-n-gt9223372036854775808
returns-then-n-gt9223372036854775808 c = minus-great _ (omega arith) c.if-word-ne45.false _ _ c.in_ok-n-2.was c.read_number-2.ensures (omega arith)

pub returns : goal.returns
returns c = minus_is _ (omega arith) c.if-word-ne45.false _ _ c.in_ok-n-2.was c.read_number-2.ensures _ (omega arith) (omega arith) (kept _ _ c.negative.ensures (omega arith))
