-- `taking::take_both` meets its contract. Assumes nothing.
use mathlib.Core.Path.{sym, ◌∙◌}
use Rattle.taking.proofs.take_both.Goals as goal

pub returns-then-wide : goal.returns-then-wide
returns-then-wide c = simp (sym c.wide.ensures ∙ c.if-wide.true)

pub returns-then-wide-2 : goal.returns-then-wide-2
returns-then-wide-2 c = simp (sym c.wide.ensures ∙ c.if-wide.false, sym c.wide-2.ensures ∙ c.if-wide-2.true)

pub outside-requires : goal.outside-requires
outside-requires c = sym c.wide.ensures ∙ c.if-wide.false

pub returns-then-outside : goal.returns-then-outside
returns-then-outside c =
    simp (sym c.wide.ensures ∙ c.if-wide.false, sym c.wide-2.ensures ∙ c.if-wide-2.false, sym c.outside.ensures ∙ c.if-outside.true)

pub outside-requires-2 : goal.outside-requires-2
outside-requires-2 c = sym c.wide-2.ensures ∙ c.if-wide-2.false

pub returns-then-outside-2 : goal.returns-then-outside-2
returns-then-outside-2 c =
    simp (sym c.wide.ensures ∙ c.if-wide.false, sym c.wide-2.ensures ∙ c.if-wide-2.false, sym c.outside.ensures ∙ c.if-outside.false, sym c.outside-2.ensures ∙ c.if-outside-2.true)

pub returns : goal.returns
returns c =
    simp (sym c.wide.ensures ∙ c.if-wide.false, sym c.wide-2.ensures ∙ c.if-wide-2.false, sym c.outside.ensures ∙ c.if-outside.false, sym c.outside-2.ensures ∙ c.if-outside-2.false)
