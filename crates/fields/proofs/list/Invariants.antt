-- `fields::list` meets its contract: the texts that are passed are taken in, and those ahead begin at the place of the loop. Assumes nothing.
use Rattle.requests.specs.Protocol.{texts_from}
use Rattle.fields.proofs.Lists.{Listed}
use Rattle.fields.proofs.list.Given as goal

abbrev pub invariant-loop-n : goal.invariant-loop-n
invariant-loop-n l = Listed (texts_from l.line l.from) (texts_from l.line l.at) l.initial.table l.table l.n
