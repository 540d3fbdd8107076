-- `monotone_unrank::unrank_any` meets its contract. Assumes nothing.
use mathlib.Core.Path.{ap, ◌∙◌}
use borrow.Author.Tests.{lt-ltb, le-ltb}
use Rattle.monotone_unrank.specs.Rules.{unrank_over_says}
use Rattle.monotone_unrank.proofs.unrank_any.Goals as goal

pub returns-then-k-gt64 : goal.returns-then-k-gt64
returns-then-k-gt64 c =
    simp (lt-ltb _ _ c.if-k-gt64.true)

pub returns : goal.returns
returns c =
    c.unrank_over.ensures ∙ ap (λ n. unrank_over_says c.args.family n c.args.k c.args.r) c.widest-n.ensures ∙ simp (le-ltb _ _ c.if-k-gt64.false)
