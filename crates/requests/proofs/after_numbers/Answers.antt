-- `requests::after_numbers` meets its contract: what is passed and what is still ahead are the numbers from place i on. Assumes nothing.
use native.Mathlib.Omega.{arith}
use Rattle.requests.proofs.Fitting.{numbers_more, numbers_end, numbers-past}
use Rattle.requests.proofs.after_numbers.Goals as goal

pub returns-then-kinds-to-ne110 : goal.returns-then-kinds-to-ne110
returns-then-kinds-to-ne110 c = omega (arith, numbers_end c.args.kinds.now c.loop-to.to c.loop-to-test.true c.if-kinds-to-ne110.true)

pub loop-to-preserved : goal.loop-to-preserved
loop-to-preserved c = omega (arith, numbers_more c.args.kinds.now c.loop-to.to c.loop-to-test.true c.if-kinds-to-ne110.false)

pub returns : goal.returns
returns c = grind (arith, numbers-past c.args.kinds.now c.loop-to.to c.loop-to-test.false, numbers-past c.args.kinds.now c.args.i)
