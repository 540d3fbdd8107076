-- `cartesian_strides::strides` meets its contract. Assumes nothing.
use mathlib.Core.Path.{◌≡◌, refl, sym, ap, ◌∙◌}
use mathlib.Core.Bool.{true, false}
use Prim.Native.Nat.{◌-◌}
use borrow.Author.Tests.{lt-ltb, le-ltb}
use lib.ListN.{length}
use Rattle.positional.proofs.Strides.{strides_long}
use Rattle.answers.specs.Says.{gives}
use Rattle.cartesian_strides.specs.Partial.{too_big}
use Rattle.cartesian_strides.proofs.strides.Goals as goal

pub returns-then-n-gt16 : goal.returns-then-n-gt16
returns-then-n-gt16 c = simp (lt-ltb _ _ c.if-n-gt16.true) record { says = refl; holds = refl }

pub returns-then-too_big : goal.returns-then-too_big
returns-then-too_big c =
    let big : too_big c.args.radices.now (length c.args.radices.now - 1) ≡ true =
    ap (too_big c.args.radices.now) (sym c.one_less.ensures) ∙ sym c.too_big.ensures ∙ c.if-too_big.true in
    simp (le-ltb _ _ c.if-n-gt16.false, big) record { says = refl; holds = refl }

pub returns-then-out-n : goal.returns-then-out-n
returns-then-out-n c =
    let small : too_big c.args.radices.now (length c.args.radices.now - 1) ≡ false =
    ap (too_big c.args.radices.now) (sym c.one_less.ensures) ∙ sym c.too_big.ensures ∙ c.if-too_big.false in
    simp (le-ltb _ _ c.if-n-gt16.false, small, lt-ltb _ _ c.if-out-n.true) record { says = refl; holds = refl }

pub returns : goal.returns
returns c =
    let small : too_big c.args.radices.now (length c.args.radices.now - 1) ≡ false =
    ap (too_big c.args.radices.now) (sym c.one_less.ensures) ∙ sym c.too_big.ensures ∙ c.if-too_big.false in
    simp (le-ltb _ _ c.if-n-gt16.false, small, le-ltb _ _ c.if-out-n.false)
    record { says = ap gives (sym (strides_long c.args.radices.now)); holds = c.write_strides.ensures }
