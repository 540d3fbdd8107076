-- `wide_successor::successor` meets its contract. Assumes nothing.
use mathlib.Core.Path.{sym, ap, ◌∙◌}
use Rattle.wide.specs.Answers.{whole_of}
use Rattle.wide.specs.Rules.{as_wide}
use Rattle.wide.proofs.Terms.{wide_of_whole}
use Rattle.widths.proofs.Following.{follows}
use mathlib.Core.Path.{refl}
use Rattle.answers.specs.Says.{gives}
use borrow.Author.Rules.{rules}
use Rattle.wide_successor.proofs.successor.Goals as goal

pub returns-then-is_empty : goal.returns-then-is_empty
returns-then-is_empty c = sym (ap (as_wide c.args.x.family) ((follows 128 c.args.x.family (whole_of c.args.x) _ c.later-next.ensures).last (sym c.is_empty.ensures ∙ c.if-is_empty.true)))

pub returns : goal.returns
returns c =
    ap gives (wide_of_whole c.args.x.family _ _ _ (search rules) refl)
    ∙ sym (ap (as_wide c.args.x.family) ((follows 128 c.args.x.family (whole_of c.args.x) _ c.later-next.ensures).more (sym c.is_empty.ensures ∙ c.if-is_empty.false)))
