-- The family of what an answer gives: it does not cross, since it is the one that was asked for. Assumes nothing.
--   IndexIn F a, SignedIn F a, DeletedIn F a    if the answer gives an index, alone, with a sign or after a deletion, it is of family F
--   CurrentIn F c    if a walk stands at an index, that is of family F
--   StartedIn F a, SteppedIn F a    the same of the walk that a start gives, and of the index and the walk that a step gives
use Rattle.std.specs.Prelude.{Result, Ok, Err, Option, Some, None, ◌≡◌}
use Rattle.words.specs.declared.Family.{Family}
use Rattle.deletion.specs.declared.Removed.{Removed}
use Rattle.monotone_walk.specs.declared.Moved.{Moved}
use Rattle.monotone_walk.specs.declared.Walk.{Walk}
use Rattle.answers.specs.declared.SignedTerm.{SignedTerm}
use Rattle.answers.specs.declared.Index.{Index}
use Rattle.answers.specs.declared.Refusal.{Refusal}

abbrev pub IndexIn : Family → Result Index Refusal → Type 0
IndexIn F (Ok x) = x.family ≡ F
IndexIn F (Err e) = Unit {0}

abbrev pub SignedIn : Family → Result SignedTerm Refusal → Type 0
SignedIn F (Ok t) = t.index.family ≡ F
SignedIn F (Err e) = Unit {0}

abbrev pub DeletedIn : Family → Result Removed Refusal → Type 0
DeletedIn F (Ok r) = r.index.family ≡ F
DeletedIn F (Err e) = Unit {0}

abbrev pub CurrentIn : Family → Option Index → Type 0
CurrentIn F (Some x) = x.family ≡ F
CurrentIn F None = Unit {0}

abbrev pub StartedIn : Family → Result Walk Refusal → Type 0
StartedIn F (Ok s) = CurrentIn F s.current
StartedIn F (Err e) = Unit {0}

abbrev pub SteppedIn : Family → Result Moved Refusal → Type 0
SteppedIn F (Ok m) = (m.index.family ≡ F) × CurrentIn F m.state.current
SteppedIn F (Err e) = Unit {0}
