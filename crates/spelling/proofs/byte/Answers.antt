-- `spelling::byte` meets its contract: by the values of the two digits. Assumes nothing.
use native.Mathlib.Omega.{arith}
use Rattle.spelling.proofs.byte.Goals as goal

pub returns-then-h-gt15 : goal.returns-then-h-gt15
returns-then-h-gt15 c = λ d e h l x y. absurd (omega (arith, c.digit-h.ensures.only d h x))

pub returns-then-l-gt15 : goal.returns-then-l-gt15
returns-then-l-gt15 c = λ d e h l x y. absurd (omega (arith, c.digit-l.ensures.only e l y))

pub returns : goal.returns
returns c = λ d e h l x y. omega (arith, c.digit-h.ensures.only d h x, c.digit-l.ensures.only e l y)
