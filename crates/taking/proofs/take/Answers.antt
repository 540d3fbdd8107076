-- `taking::take` meets its contract. Assumes nothing.
use mathlib.Core.Path.{sym, ◌∙◌}
use Rattle.taking.proofs.take.Goals as goal

pub returns-then-wide : goal.returns-then-wide
returns-then-wide c = simp (sym c.wide.ensures ∙ c.if-wide.true)

pub outside-requires : goal.outside-requires
outside-requires c = sym c.wide.ensures ∙ c.if-wide.false

pub returns-then-outside : goal.returns-then-outside
returns-then-outside c = simp (sym c.wide.ensures ∙ c.if-wide.false, sym c.outside.ensures ∙ c.if-outside.true)

pub returns : goal.returns
returns c = simp (sym c.wide.ensures ∙ c.if-wide.false, sym c.outside.ensures ∙ c.if-outside.false)
