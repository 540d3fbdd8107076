-- `terms_line::first` meets its contract: the bytes up to the first newline are the line. Assumes nothing.
use Rattle.terms_line.proofs.Settling.{first_answers}
use Rattle.terms_line.proofs.first.Goals as goal

pub returns : goal.returns
returns c = first_answers _ _ c.parse.result c.find-end.ensures c.parse.ensures
