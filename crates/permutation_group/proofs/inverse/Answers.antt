-- `permutation_group::inverse` meets its contract: each return by the tests that led there. Assumes nothing.
use mathlib.Core.Path.{sym, ◌∙◌}
use borrow.Author.Tests.{lt-ltb, le-ltb}
use borrow.Author.Rules.{rules}
use Rattle.permutation.specs.Rules.{taken_arrangement}
use Rattle.permutation.proofs.Taken.{tested_holds}
use Rattle.permutation_group.proofs.inverse.Goals as goal

pub returns-then-n : goal.returns-then-n
unfolding taken_arrangement
returns-then-n c = simp (lt-ltb _ _ c.if-n.true)

pub returns-then-not-is_good : goal.returns-then-not-is_good
unfolding taken_arrangement
returns-then-not-is_good c = simp (le-ltb _ _ c.if-n.false, sym c.is_good.ensures ∙ c.if-not-is_good.true)

pub inverted-requires : goal.inverted-requires
inverted-requires c = tested_holds c.args.p (search rules) c.if-n.false (sym c.is_good.ensures ∙ c.if-not-is_good.false)

pub returns : goal.returns
unfolding taken_arrangement
returns c = simp (le-ltb _ _ c.if-n.false, sym c.is_good.ensures ∙ c.if-not-is_good.false, c.inverted.ensures)
