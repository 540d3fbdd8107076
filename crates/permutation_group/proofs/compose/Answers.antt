-- `permutation_group::compose` meets its contract: each return by the tests that led there. Assumes nothing.
use mathlib.Core.Path.{sym, ◌∙◌}
use borrow.Author.Tests.{lt-ltb, le-ltb, eq-eqb, ne_eqb}
use borrow.Author.Rules.{rules}
use Rattle.permutation.proofs.Taken.{tested_holds}
use Rattle.permutation_group.proofs.compose.Goals as goal

pub returns-then-n : goal.returns-then-n
returns-then-n c = simp (lt-ltb _ _ c.if-n.true)

pub returns-then-m : goal.returns-then-m
returns-then-m c = simp (le-ltb _ _ c.if-n.false, lt-ltb _ _ c.if-m.true)

pub returns-then-n-m : goal.returns-then-n-m
returns-then-n-m c = simp (le-ltb _ _ c.if-n.false, le-ltb _ _ c.if-m.false, ne_eqb _ _ c.if-n-m.true)

pub returns-then-not-is_good : goal.returns-then-not-is_good
returns-then-not-is_good c =
    simp (
      le-ltb _ _ c.if-n.false,
      le-ltb _ _ c.if-m.false,
      eq-eqb _ _ c.if-n-m.false,
      sym c.is_good.ensures ∙ c.if-not-is_good.true,
    )

pub returns-then-not-is_good-2 : goal.returns-then-not-is_good-2
returns-then-not-is_good-2 c =
    simp (
      le-ltb _ _ c.if-n.false,
      le-ltb _ _ c.if-m.false,
      eq-eqb _ _ c.if-n-m.false,
      sym c.is_good.ensures ∙ c.if-not-is_good.false,
      sym c.is_good-2.ensures ∙ c.if-not-is_good-2.true,
    )

pub composed-requires : goal.composed-requires
composed-requires c =
    record {
      left =
          tested_holds c.args.p (search rules) c.if-n.false
          (sym c.is_good.ensures ∙ c.if-not-is_good.false);
      right =
          tested_holds c.args.q (search rules) c.if-m.false (sym c.is_good-2.ensures ∙ c.if-not-is_good-2.false);
      lengths = c.if-n-m.false;
    }

pub returns : goal.returns
returns c =
    simp (
      le-ltb _ _ c.if-n.false,
      le-ltb _ _ c.if-m.false,
      eq-eqb _ _ c.if-n-m.false,
      sym c.is_good.ensures ∙ c.if-not-is_good.false,
      sym c.is_good-2.ensures ∙ c.if-not-is_good-2.false,
      c.composed.ensures,
    )
