-- `fields::after` meets its contract. The invariant: the texts begin with those of the pattern exactly if the texts ahead begin with those of the letters ahead. Assumes nothing.
use mathlib.Core.List.{List}
use Prim.Native.Nat.{ℕ}
use lib.ListN.{drop}
use Rattle.requests.specs.Protocol.{texts_from}
use Rattle.fields.specs.Fields.{AllStand}
use Rattle.fields.proofs.after.Given as goal

abbrev pub invariant-loop-letter : goal.invariant-loop-letter
invariant-loop-letter l = ((rest : List (List ℕ)) → AllStand l.pattern (texts_from l.line l.from) rest → AllStand (drop l.letter-index l.pattern) (texts_from l.line l.at) rest)
    × ((rest : List (List ℕ)) → AllStand (drop l.letter-index l.pattern) (texts_from l.line l.at) rest → AllStand l.pattern (texts_from l.line l.from) rest)
