-- No second outcome: what a row call answers is told by what it says. Assumes nothing.
--   one_table    two answers of a table that say the same are the same
use Rattle.std.specs.Prelude.{Result, Ok, Err}
use mathlib.Core.Path.{◌≡◌, sym, ap}
use Rattle.answers.specs.declared.Refusal.{Refusal}
use Rattle.answers.specs.Says.{number_of, carried_by, answer_says}
use Rattle.answers.proofs.Says.{gives_same, gives_never}
use Rattle.outcomes.proofs.Outcomes.{one_refusal}
use Rattle.image_reading.specs.declared.Table.{Table}

pub one_table : (a b : Result Table Refusal) → answer_says a ≡ answer_says b → a ≡ b
one_table (Ok s) (Ok t) e = ap Ok (gives_same s t e)
one_table (Ok s) (Err d) e = absurd (gives_never s (number_of d) (carried_by d) e)
one_table (Err d) (Ok t) e = absurd (gives_never t (number_of d) (carried_by d) (sym e))
one_table (Err d) (Err f) e = ap Err (one_refusal d f (cc) (cc))
