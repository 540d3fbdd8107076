-- The state of a check in pieces as four parts (02, section 13). Assumes nothing.
--   verdict_at code number    the verdict that two numbers stand for: 0 open, 1 good, any other bad
--   code_of v, number_in v    the two numbers of a verdict
--   state_at bytes seen code number    the state that four parts stand for
use Rattle.std.specs.Prelude.{List, ℕ, zero, suc}
use Rattle.pieces.specs.declared.Verdict.{Verdict}
use Rattle.pieces.specs.declared.Verdict.TheVariants.{Open, Good, Bad}
use Rattle.pieces.specs.declared.Pieces.{Pieces}

abbrev pub verdict_at : ℕ → ℕ → Verdict
verdict_at zero n = Open
verdict_at (suc zero) n = Good n
verdict_at (suc (suc c)) n = Bad n

abbrev pub code_of : Verdict → ℕ
code_of Open = 0
code_of (Good t) = 1
code_of (Bad at) = 2

abbrev pub number_in : Verdict → ℕ
number_in Open = 0
number_in (Good t) = t
number_in (Bad at) = at

abbrev pub state_at : List ℕ → ℕ → ℕ → ℕ → Pieces
state_at bytes seen code number = record { bytes = bytes; seen = seen; verdict = verdict_at code number }
