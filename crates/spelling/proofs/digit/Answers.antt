-- `spelling::digit` meets its contract: by the range that the byte is in. Assumes nothing.
use native.Mathlib.Omega.{arith}
use Rattle.spelling.proofs.Digits.{value_low, value-high, no_digit}
use Rattle.spelling.proofs.digit.Goals as goal

pub returns-then-b-lt48 : goal.returns-then-b-lt48
returns-then-b-lt48 c = no_digit _ (λ h l. omega arith) (λ h l. omega arith)

pub returns-then-b-le57 : goal.returns-then-b-le57
returns-then-b-le57 c = value_low _ (omega arith) (omega arith)

pub returns-then-b-lt97 : goal.returns-then-b-lt97
returns-then-b-lt97 c = no_digit _ (λ h l. omega arith) (λ h l. omega arith)

pub returns-then-b-le102 : goal.returns-then-b-le102
returns-then-b-le102 c = value-high _ (omega arith) (omega arith)

pub returns : goal.returns
returns c = no_digit _ (λ h l. omega arith) (λ h l. omega arith)
