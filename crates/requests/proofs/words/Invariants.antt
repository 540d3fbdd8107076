-- `requests::words` meets its contract: the texts that are passed are taken in, and those ahead begin at the place of the loop. Assumes nothing.
use Rattle.requests.specs.Protocol.{texts_from}
use Rattle.requests.proofs.Passing.{Passed}
use Rattle.requests.proofs.words.Given as goal

abbrev pub invariant-loop-n : goal.invariant-loop-n
invariant-loop-n l = Passed (texts_from l.line l.from) (texts_from l.line l.at) l.initial.kinds l.initial.values l.kinds l.values l.n
