-- `wide_unranking::descended` meets its contract. Assumes nothing.
use mathlib.Core.Path.{◌≡◌}
use Prim.Native.Nat.{◌+◌, ◌-◌, ◌*◌, ◌%◌, ◌^◌}
use native.Mathlib.Omega.{arith}
use Rattle.pascal.specs.Choose.{choose}
use Rattle.wide_pascal.proofs.Told.{held_exactly}
use Rattle.wide_unranking.proofs.Seam.{Above, above_starts, next_held, has-place, above_taken, above_passed, low_fits, above_ends, high_fits, one_shl}
use borrow.Author.Rules.{rules}
use Rattle.wide_unranking.proofs.descended.Goals as goal
use Rattle.wide_unranking.proofs.descended.Goals.{After-at-c, Then-c-left}

-- the weight of the number tried
weight : (c : After-at-c) → c.at-c.result ≡ choose (c.loop-s.s - 1) c.loop-s.i
weight c = held_exactly _ _ _ c.at-c.ensures (next_held _ _ (omega arith) c.loop-s.invariant.held)

-- where it is taken
after : (c : Then-c-left) → Above 64 128 c.args.k c.args.r (c.loop-s.s - 1) (c.loop-s.i - 1) (c.loop-s.left - c.at-c.result) (c.loop-s.high + 1 * 2 ^ (c.loop-s.s - 1 - 64) % 2 ^ 64)
after c =
    above_taken _ _ _ _ _ _ _ _ _ _ (omega arith) (has-place _ _ _ _ _ _ _ _ _ c.loop-s.invariant (weight c.before) c.if-c-left.true) c.loop-s.invariant (weight c.before) c.if-c-left.true
    (one_shl 64 _ (omega (arith, c.loop-s.invariant.walk.low)))

pub loop-s-init : goal.loop-s-init
loop-s-init c = above_starts 64 128 _ _ _ c.requires.0 c.requires.1 c.requires.2

pub at-c-requires : goal.at-c-requires
at-c-requires c = omega (arith, c.loop-s.invariant.walk.low)

pub overflow_shl-high : goal.overflow_shl-high
overflow_shl-high c = omega (arith, c.loop-s.invariant.walk.low)

pub overflow_add-high : goal.overflow_add-high
overflow_add-high c = record { fits = high_fits 64 64 _ _ _ _ _ _ (after (goal.at.overflow_add-high c).Then-c-left) }

pub overflow_sub-i : goal.overflow_sub-i
overflow_sub-i c = has-place _ _ _ _ _ _ _ _ _ c.loop-s.invariant (weight (goal.at.overflow_sub-i c).After-at-c) c.if-c-left.true

pub loop-s-preserved-then-c-left : goal.loop-s-preserved-then-c-left
loop-s-preserved-then-c-left c = after (goal.at.loop-s-preserved-then-c-left c).Then-c-left

pub loop-s-preserved : goal.loop-s-preserved
loop-s-preserved c = above_passed _ _ _ _ _ _ _ _ _ (omega arith) c.loop-s.invariant (weight (goal.at.loop-s-preserved c).After-at-c) (omega arith)

pub word-low-requires : goal.word-low-requires
word-low-requires c = (omega arith, low_fits _ _ _ _ _ _ _ _ (omega arith) c.loop-s.invariant)

pub returns : goal.returns
returns c = above_ends _ _ _ _ _ _ _ _ _ c.loop-s.invariant c.word-low.ensures (search rules)
