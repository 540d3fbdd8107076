-- `digits::power` meets its contract. The invariant: what is made, and what is left of the power. The measure is how many factors are left. Assumes nothing.
use mathlib.Core.Path.{◌≡◌, sym, ◌∙◌}
use Prim.Native.Nat.{ℕ, ◌<◌, ◌*◌, ◌^◌}
use borrow.Author.Tests.{leb-false, lt-leb}
use Rattle.digits.proofs.Powers.{squared_turn, squared_ends, odd_too_big, square_too_big}
use Rattle.digits.proofs.power.Goals as goal

pub returns-then-exceeds : goal.returns-then-exceeds
returns-then-exceeds c = odd_too_big c.loop-left.product c.loop-left.base c.loop-left.left (c.args.radix ^ c.args.degree) _ c.loop-left.invariant c.odd_factor-odd.ensures (sym c.exceeds.ensures ∙ c.if-exceeds.true)

pub returns-then-exceeds-2 : goal.returns-then-exceeds-2
returns-then-exceeds-2 c = square_too_big c.loop-left.product c.loop-left.base c.loop-left.left (c.args.radix ^ c.args.degree) _ c.loop-left.invariant c.odd_factor-odd.ensures c.loop-left-test.true (sym c.exceeds-in-loop-left.ensures ∙ c.if-exceeds-2.true)

pub loop-left-preserved : goal.loop-left-preserved
loop-left-preserved c =
    squared_turn c.loop-left.product c.loop-left.base c.loop-left.left (c.args.radix ^ c.args.degree) _ c.loop-left.invariant c.odd_factor-odd.ensures
    (leb-false (2 ^ 64) (c.loop-left.product * c.odd_factor-odd.result) (sym c.exceeds.ensures ∙ c.if-exceeds.false))
    (leb-false (2 ^ 64) (c.loop-left.base * c.loop-left.base) (sym c.exceeds-in-loop-left.ensures ∙ c.if-exceeds-2.false))

pub returns-then-exceeds-3 : goal.returns-then-exceeds-3
returns-then-exceeds-3 c = odd_too_big c.loop-left.product c.loop-left.base c.loop-left.left (c.args.radix ^ c.args.degree) _ c.loop-left.invariant c.odd_factor-odd-2.ensures (sym c.exceeds-2.ensures ∙ c.if-exceeds-3.true)

pub returns : goal.returns
returns c =
    let p : ℕ = c.loop-left.product * c.odd_factor-odd-2.result in
    let e : p ≡ c.args.radix ^ c.args.degree = squared_ends c.loop-left.product c.loop-left.base c.loop-left.left (c.args.radix ^ c.args.degree) _ c.loop-left.invariant c.odd_factor-odd-2.ensures c.loop-left-test.false in
    let h : p < 2 ^ 64 = leb-false (2 ^ 64) p (sym c.exceeds-2.ensures ∙ c.if-exceeds-3.false) in
    simp (sym e, lt-leb (2 ^ 64) p h)
