-- `packing::break_at` meets its contract. The invariant: what is left of the word decides. Assumes nothing.
use mathlib.Core.Path.{◌≡◌, refl, sym, ap, ◌∙◌}
use Prim.Native.Nat.{ℕ, ◌-◌, ◌+◌}
use native.Mathlib.Omega.{arith}
use mathlib.Core.Bool.{true, false}
use mathlib.Core.List.{List}
use Rattle.words.specs.Pick.{pick}
use lib.ListN.{get_or, drop}
use Rattle.packing.specs.Checks.{steps, break_from}
use Rattle.packing.proofs.Checks.{break_turn, break_end}
use Rattle.packing.proofs.break_at.Goals as goal

pub loop-i-init : goal.loop-i-init
loop-i-init c = (omega arith, refl)

pub returns-then-not-may_follow : goal.returns-then-not-may_follow
returns-then-not-may_follow c =
    let w : List ℕ = c.args.w.now in
    let i : ℕ = c.loop-i.i in
    let s : steps c.args.f (get_or w (i - 1) 0) (get_or w i 0) ≡ false = sym c.may_follow.ensures ∙ c.if-not-may_follow.true in
    sym (c.loop-i.invariant.1 ∙ break_turn _ w i c.loop-i.auto.i (omega (arith, c.loop-i-test.true)) ∙ ap (λ t. pick t (break_from c.args.f i (drop i w)) i) s)

pub loop-i-preserved : goal.loop-i-preserved
loop-i-preserved c =
    let w : List ℕ = c.args.w.now in
    let i : ℕ = c.loop-i.i in
    let s : steps c.args.f (get_or w (i - 1) 0) (get_or w i 0) ≡ true = sym c.may_follow.ensures ∙ c.if-not-may_follow.false in
    let e : i ≡ i + 1 - 1 = omega arith in (
      omega (arith, c.loop-i-test.true),
      c.loop-i.invariant.1 ∙ break_turn _ w i c.loop-i.auto.i (omega (arith, c.loop-i-test.true)) ∙ ap (λ t. pick t (break_from c.args.f i (drop i w)) i) s ∙ ap (λ (j : ℕ). break_from c.args.f j (drop j w)) e,
    )

pub returns : goal.returns
returns c = sym (c.loop-i.invariant.1 ∙ break_end _ _ (c.loop-i.i - 1) c.loop-i.invariant.0 (omega (arith, c.loop-i-test.false)))
