-- `fields::place` meets its contract. The invariant: the texts ahead are those after the first ones, as many as were passed. Assumes nothing.
use mathlib.Core.Path.{◌≡◌}
use lib.ListN.{drop}
use Rattle.requests.specs.Protocol.{texts_from}
use Rattle.fields.proofs.place.Given as goal

abbrev pub invariant-loop : goal.invariant-loop
invariant-loop l = texts_from l.line l.at ≡ drop l.counter (texts_from l.line l.from)
