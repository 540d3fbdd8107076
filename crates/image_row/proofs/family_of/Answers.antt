-- `image_row::family_of` meets its contract. Assumes nothing.
use mathlib.Core.Path.{sym}
use Rattle.image_row.proofs.Judging.{family_some}
use Rattle.image_row.proofs.family_of.Goals as goal

pub returns : goal.returns
returns c = sym (family_some c.args.b c.if-b-eq0.false)
