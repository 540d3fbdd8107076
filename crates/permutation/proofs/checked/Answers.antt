-- `permutation::checked` meets its contract: each return by the tests that led there. Assumes nothing.
use mathlib.Core.Path.{sym, ◌∙◌}
use borrow.Author.Tests.{lt-ltb, le-ltb}
use Rattle.permutation.specs.Rules.{taken_arrangement}
use Rattle.permutation.proofs.checked.Goals as goal

pub returns-then-n : goal.returns-then-n
unfolding taken_arrangement
returns-then-n c = simp (lt-ltb _ _ c.if-n.true)

pub returns-then-is_good : goal.returns-then-is_good
unfolding taken_arrangement
returns-then-is_good c = simp (le-ltb _ _ c.if-n.false, sym c.is_good.ensures ∙ c.if-is_good.true)

pub returns : goal.returns
unfolding taken_arrangement
returns c = simp (le-ltb _ _ c.if-n.false, sym c.is_good.ensures ∙ c.if-is_good.false)
