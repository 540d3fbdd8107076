-- `spelling::digit_of` meets its contract: by the digit's sort. Assumes nothing.
use mathlib.Core.Path.{sym}
use Rattle.spelling.proofs.Digits.{digit_low, digit-high}
use Rattle.spelling.proofs.digit_of.Goals as goal

pub returns-then-d-lt10 : goal.returns-then-d-lt10
returns-then-d-lt10 c = sym (digit_low _ c.if-d-lt10.true)

pub returns : goal.returns
returns c = sym (digit-high _ c.if-d-lt10.false)
