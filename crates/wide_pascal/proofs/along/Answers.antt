-- `wide_pascal::along` meets its contract. Assumes nothing.
use mathlib.Core.Path.{◌≡◌, sym, ap, ◌∙◌}
use Prim.Native.Nat.{◌+◌, ◌*◌, ◌/◌, ◌-◌, ◌≤◌}
use native.Mathlib.Omega.{arith}
use Rattle.pascal.specs.Choose.{choose}
use Rattle.pascal.proofs.Choose.{choose_none}
use Rattle.pascal.proofs.Row.{entry_is_choose, entry-few}
use Rattle.wide_pascal.proofs.Steps.{Step, step, held, cut, within, past}
use Rattle.wide_pascal.proofs.along.Goals as goal
use Rattle.wide_pascal.proofs.along.Goals.{Else-factor-whole, In-loop-i}

-- what a turn finds
turn : (c : In-loop-i) → Step c.args.n c.loop-i.i c.loop-i.c
turn c = step _ _ _ c.requires (omega arith) c.loop-i.invariant

-- the first part fits
first : (c : Else-factor-whole)
    → c.loop-i.c / (c.loop-i.i + 1) * (c.args.n - c.loop-i.i) ≤ 18446744073709551615
first c = within _ _ _ (omega arith) (omega arith)

pub returns-then-n-k : goal.returns-then-n-k
returns-then-n-k c = held c.args.n c.args.k 0 (omega arith) (sym (entry-few _ _ c.if-n-k.true))

pub loop-i-init : goal.loop-i-init
loop-i-init c = sym (choose_none _)

pub returns-then-factor-whole : goal.returns-then-factor-whole
returns-then-factor-whole c = cut c.args.n c.args.k _ (c.loop-i.i + 1) c.nearer-j.ensures.0 c.nearer-j.ensures.1 (omega arith) (omega (arith, (turn (goal.at.returns-then-factor-whole c).In-loop-i).next, past _ _ _ (omega arith) c.if-factor-whole.true))

pub overflow_mul-most : goal.overflow_mul-most
overflow_mul-most c = omega (arith, first (goal.at.overflow_mul-most c).Else-factor-whole)

pub overflow_mul-rest : goal.overflow_mul-rest
overflow_mul-rest c = omega (arith, (turn (goal.at.overflow_mul-rest c).In-loop-i).small)

pub overflow_sub-most : goal.overflow_sub-most
overflow_sub-most c = omega (arith, first (goal.at.overflow_sub-most c).Else-factor-whole)

pub returns-then-most-rest : goal.returns-then-most-rest
returns-then-most-rest c = cut c.args.n c.args.k _ (c.loop-i.i + 1) c.nearer-j.ensures.0 c.nearer-j.ensures.1 (omega arith) (omega (arith, (turn (goal.at.returns-then-most-rest c).In-loop-i).next, first (goal.at.returns-then-most-rest c).Else-factor-whole, c.if-most-rest.true))

pub overflow_add-c : goal.overflow_add-c
overflow_add-c c = omega (arith, first (goal.at.overflow_add-c c).Else-factor-whole)

pub loop-i-preserved : goal.loop-i-preserved
loop-i-preserved c = (turn (goal.at.loop-i-preserved c).In-loop-i).next

pub returns : goal.returns
returns c =
    let all : c.loop-i.i ≡ c.nearer-j.result = omega arith in
    held c.args.n c.args.k _ (omega arith)
    (c.loop-i.invariant ∙ ap (choose c.args.n) all ∙ sym (entry_is_choose _ _) ∙ c.nearer-j.ensures.0)
