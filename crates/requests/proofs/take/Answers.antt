-- `requests::take` meets its contract: a number is taken in as one, and another word by its kind. Assumes nothing.
use Rattle.requests.proofs.Passing.{number_in, other-in}
use Rattle.requests.proofs.take.Goals as goal

pub returns-in-Some : goal.returns-in-Some
returns-in-Some c = number_in _ _ _ _ _ _ c.in-Some.is c.read_number.ensures

pub returns-in-None : goal.returns-in-None
returns-in-None c = other-in _ _ _ _ _ _ c.in-None.is c.read_number.ensures c.kind-k.ensures
