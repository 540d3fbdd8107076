use mathlib.Core.Path.{refl}
use Rattle.boundary.proofs.walk.Goals as goal

pub returns-then-standing : goal.returns-then-standing
returns-then-standing c = simp (c.if-standing.true, c.index.ensures) refl

pub returns : goal.returns
returns c = simp c.if-standing.false refl
