-- `wide_ranking::weighed` meets its contract. Assumes nothing.
use Rattle.answers.specs.Says.{gives}
use mathlib.Core.Path.{◌≡◌, sym, ap, ◌∙◌}
use Prim.Native.Nat.{ℕ, ◌+◌, ◌^◌, ◌≤◌, ◌<◌}
use native.Mathlib.Nat.{add_comm}
use native.Mathlib.Omega.{arith}
use borrow.Author.Rules.{rules}
use borrow.Author.Tests.{le-leb, lt-leb}
use lib.ListN.{length, length-drop}
use Rattle.pascal.specs.Choose.{choose}
use Rattle.words.specs.Bits.{set_bits}
use Rattle.seam.proofs.Joined.{long_le}
use Rattle.wide_pascal.proofs.Told.{told-big, told-held}
use Rattle.wide_ranking.proofs.Weighing.{weighing_starts, weighing_ends, Turn, turn, weighing_on}
use Rattle.wide_ranking.proofs.weighed.Invariants.{total}
use Rattle.wide_ranking.proofs.weighed.Goals as goal
use Rattle.wide_ranking.proofs.weighed.Goals.{After-lowest, Else-c}

-- the number weighed next
next : (c : After-lowest)
    → Turn 64 (total c.args.low c.args.high) c.loop-i.sum c.loop-i.i c.loop-i.left c.lowest.result
next c = turn _ _ _ _ _ _ c.loop-i.invariant.0 (omega (arith, c.loop-i-test.true, c.loop-i.invariant.1)) c.lowest.ensures

-- its weight, if 64 digits hold it
weight : (c : Else-c) → c.at-c.result ≡ choose (c.lowest.result + 64) (c.loop-i.i + 1)
weight c =
    told-held _ _ _ c.at-c.ensures c.if-c.false
    ∙ ap (λ (n : ℕ). choose n (c.loop-i.i + 1)) (add_comm 64 c.lowest.result)

pub loop-i-init : goal.loop-i-init
loop-i-init c = (weighing_starts 64 _ _ _ _ (search rules) (search rules) c.rank-sum.ensures c.count_ones-k.ensures, omega (arith, c.count_ones.ensures))

pub overflow_add-i-end : goal.overflow_add-i-end
overflow_add-i-end c =
    omega (arith, c.count_ones-k.ensures, c.count_ones.ensures, long_le 64 c.args.low (search rules), long_le 64 c.args.high (search rules))

pub overflow_add-lowest : goal.overflow_add-lowest
overflow_add-lowest c = omega (arith, (next (goal.at.overflow_add-lowest c).After-lowest).low)

pub at-c-requires : goal.at-c-requires
at-c-requires c = omega (arith, (next (goal.at.at-c-requires c).After-lowest).low)

pub returns-then-c : goal.returns-then-c
returns-then-c c =
    let l : choose (c.lowest.result + 64) (c.loop-i.i + 1) ≡ choose (64 + c.lowest.result) (c.loop-i.i + 1) = ap (λ (n : ℕ). choose n (c.loop-i.i + 1)) (add_comm c.lowest.result 64) in
    let big : 2 ^ 64 ≤ total c.args.low c.args.high = omega (arith, (next (goal.at.returns-then-c c).After-lowest).whole, l, told-big (64 + c.lowest.result) (c.loop-i.i + 1) _ (omega (arith, (next (goal.at.returns-then-c c).After-lowest).low)) c.at-c.ensures c.if-c.true) in
    simp (le-leb _ _ big)

pub returns-then-sum-c : goal.returns-then-sum-c
returns-then-sum-c c =
    let big : 2 ^ 64 ≤ total c.args.low c.args.high = omega (arith, (next (goal.at.returns-then-sum-c c).After-lowest).whole, weight (goal.at.returns-then-sum-c c).Else-c, c.if-sum-c.true) in
    simp (le-leb _ _ big)

pub loop-i-preserved : goal.loop-i-preserved
loop-i-preserved c = (weighing_on _ _ _ _ _ _ _ _ (next (goal.at.loop-i-preserved c).After-lowest) (weight (goal.at.loop-i-preserved c).Else-c) c.without_lowest-left.ensures (search rules), omega (arith, c.loop-i.invariant.1, ap length c.without_lowest-left.ensures, length-drop 1 (set_bits c.loop-i.left), c.loop-i-test.true))

pub returns : goal.returns
returns c =
    let e : c.loop-i.sum ≡ total c.args.low c.args.high = weighing_ends _ _ _ _ _ c.loop-i.invariant.0 (omega (arith, c.loop-i-test.false, c.loop-i.invariant.1)) in
    let l : total c.args.low c.args.high < 2 ^ 64 = omega arith in
    ap gives e ∙ sym (simp (lt-leb _ _ l))
