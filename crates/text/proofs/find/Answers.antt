-- `text::find` meets its contract. The invariant: no place that was passed has the byte. Assumes nothing.
use native.Mathlib.Omega.{arith}
use Rattle.text.proofs.find.Goals as goal

pub returns-then-s-i : goal.returns-then-s-i
returns-then-s-i c = record { within = omega arith; after = omega arith; none = c.loop-i.invariant; there = λ h. c.if-s-i.true }

pub returns : goal.returns
returns c = record { within = omega arith; after = omega arith; none = λ k h l. c.loop-i.invariant k (omega arith) l; there = λ h. omega arith }
