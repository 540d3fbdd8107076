-- `permutation::is_good` meets its contract: each return by the test that led there. Assumes nothing.
use mathlib.Core.Path.{sym, ◌∙◌}
use Rattle.permutation.specs.Rules.{is_good}
use Rattle.permutation.proofs.is_good.Goals as goal

pub returns-then-not-is_permutation : goal.returns-then-not-is_permutation
unfolding is_good
returns-then-not-is_permutation c = simp (sym c.is_permutation.ensures ∙ c.if-not-is_permutation.true)

pub returns : goal.returns
unfolding is_good
returns c = simp (sym c.is_permutation.ensures ∙ c.if-not-is_permutation.false) c.nothing_past.ensures
