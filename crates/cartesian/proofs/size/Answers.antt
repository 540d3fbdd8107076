-- `cartesian::size` meets its contract. The invariant: the product of the radices from axis i up, which is below 2^64. Assumes nothing.
use mathlib.Core.Path.{sym, ◌∙◌}
use Prim.Native.Nat.{◌-◌, ◌*◌, ◌^◌}
use native.Mathlib.Omega.{arith}
use borrow.Author.Tests.{leb-true, leb-false}
use lib.ListN.{get_or}
use Rattle.cartesian.proofs.Products.{falling_starts, falling_turn, falling_ends}
use Rattle.cartesian.proofs.size.Goals as goal

pub loop-i-init : goal.loop-i-init
loop-i-init c = (falling_starts c.args.radices.now, omega arith)

pub past-requires : goal.past-requires
past-requires c = (
  omega arith,
  omega (
    arith,
    leb-true (2 ^ 64) (c.loop-i.product * get_or c.args.radices.now (c.loop-i.i - 1) 0) (sym c.exceeds.ensures ∙ c.if-exceeds.true),
    falling_turn c.args.radices.now c.loop-i.product c.loop-i.i c.loop-i.invariant.0 (omega arith) c.loop-i.auto.i,
  ),
)

pub returns-then-exceeds : goal.returns-then-exceeds
returns-then-exceeds c = c.past.ensures

pub loop-i-preserved : goal.loop-i-preserved
loop-i-preserved c = (
  falling_turn c.args.radices.now c.loop-i.product c.loop-i.i c.loop-i.invariant.0 (omega arith) c.loop-i.auto.i,
  leb-false (2 ^ 64) (c.loop-i.product * get_or c.args.radices.now (c.loop-i.i - 1) 0) (sym c.exceeds.ensures ∙ c.if-exceeds.false),
)

pub returns : goal.returns
returns c =
    falling_ends c.args.radices.now c.loop-i.product c.loop-i.i c.loop-i.invariant.0 c.loop-i.invariant.1 (omega arith)
