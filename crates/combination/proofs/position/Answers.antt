-- `combination::position` meets its contract. Assumes nothing.
use mathlib.Core.Path.{sym}
use Rattle.combination.proofs.position.Goals as goal

pub returns-then-not-contains : goal.returns-then-not-contains
returns-then-not-contains c = simp (sym c.contains.ensures, c.if-not-contains.true)

pub returns : goal.returns
returns c = simp (sym c.contains.ensures, c.if-not-contains.false, c.below.ensures)
