-- `wide_unrank::unrank_any` meets its contract. Assumes nothing.
use mathlib.Core.Path.{ap, ◌∙◌}
use borrow.Author.Tests.{lt-ltb, le-ltb}
use Rattle.wide.specs.Rules.{wide_unrank_over_says}
use Rattle.wide_unrank.proofs.unrank_any.Goals as goal

pub returns-then-k-gt128 : goal.returns-then-k-gt128
returns-then-k-gt128 c =
    simp (lt-ltb _ _ c.if-k-gt128.true)

pub returns : goal.returns
returns c =
    c.unrank_over.ensures ∙ ap (λ n. wide_unrank_over_says c.args.family n c.args.k c.args.r) c.widest-n.ensures ∙ simp (le-ltb _ _ c.if-k-gt128.false)
