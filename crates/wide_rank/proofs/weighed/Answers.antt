-- `wide_rank::weighed` meets its contract. Assumes nothing.
use mathlib.Core.Path.{◌≡◌, sym, ap, ◌∙◌}
use Prim.Native.Nat.{ℕ, ◌+◌, ◌^◌, ◌≤◌, ◌<◌}
use native.Mathlib.Omega.{arith}
use lib.ListN.{get_or, drop}
use Rattle.pascal.specs.Choose.{choose}
use Rattle.words.specs.Rank.{rank_from, rank_of}
use Rattle.words.proofs.Positions.{rank-drop, rank_end}
use Rattle.wide_pascal.proofs.Told.{told-big, told-held}
use Rattle.answers.specs.Says.{gives}
use Rattle.widths.proofs.Counting.{held_gives, held-refuses}
use Rattle.wide_rank.proofs.Words.{symbol_in}
use Rattle.wide_rank.proofs.weighed.Goals as goal
use Rattle.wide_rank.proofs.weighed.Goals.{After-shift, Else-c}

-- the shifted symbol is below 128
within : (c : After-shift) → get_or c.args.word.now c.loop-i.i 0 + c.shift.result < 128
within c =
    omega (arith, c.shift.ensures, symbol_in 128 c.args.family c.args.word.now c.loop-i.i c.requires.1 (omega arith))

-- the weight of the symbol, and what is left
turn : (c : After-shift) → c.loop-i.sum + (choose (get_or c.args.word.now c.loop-i.i 0 + c.shift.result) (c.loop-i.i + 1) + rank_from c.args.family (c.loop-i.i + 1) (drop (c.loop-i.i + 1) c.args.word.now)) ≡ rank_of c.args.family c.args.word.now
turn c =
    omega (
      arith,
      c.loop-i.invariant,
      rank-drop c.args.family c.args.word.now c.loop-i.i (omega arith),
      ap (λ (s : ℕ). choose (get_or c.args.word.now c.loop-i.i 0 + s) (c.loop-i.i + 1)) c.shift.ensures,
    )

weight : (c : Else-c) → c.at-c.result ≡ choose (get_or c.args.word.now c.loop-i.i 0 + c.shift.result) (c.loop-i.i + 1)
weight c = told-held _ _ _ c.at-c.ensures c.if-c.false

pub overflow_add-s : goal.overflow_add-s
overflow_add-s c = omega (arith, within (goal.at.overflow_add-s c).After-shift)

pub at-c-requires : goal.at-c-requires
at-c-requires c = omega (arith, within (goal.at.at-c-requires c).After-shift)

pub returns-then-c : goal.returns-then-c
returns-then-c c =
    let big : 2 ^ 64 ≤ rank_of c.args.family c.args.word.now = omega (arith, turn (goal.at.returns-then-c c).After-shift, told-big (get_or c.args.word.now c.loop-i.i 0 + c.shift.result) (c.loop-i.i + 1) _ (omega (arith, within (goal.at.returns-then-c c).After-shift)) c.at-c.ensures c.if-c.true) in
    sym (held-refuses _ big)

pub returns-then-sum-c : goal.returns-then-sum-c
returns-then-sum-c c =
    let big : 2 ^ 64 ≤ rank_of c.args.family c.args.word.now = omega (arith, turn (goal.at.returns-then-sum-c c).After-shift, weight (goal.at.returns-then-sum-c c).Else-c, c.if-sum-c.true) in
    sym (held-refuses _ big)

pub loop-i-preserved : goal.loop-i-preserved
loop-i-preserved c = omega (arith, turn (goal.at.loop-i-preserved c).After-shift, weight (goal.at.loop-i-preserved c).Else-c)

pub returns : goal.returns
returns c =
    let e : c.loop-i.sum ≡ rank_of c.args.family c.args.word.now = omega (arith, c.loop-i.invariant, rank_end c.args.family c.args.word.now c.loop-i.i (omega arith)) in
    ap gives e ∙ sym (held_gives (rank_of c.args.family c.args.word.now) (omega arith))
