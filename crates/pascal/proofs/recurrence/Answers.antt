-- `pascal::recurrence` meets its contract. The loop's invariant: c is place i of row n. Assumes nothing.
use mathlib.Core.Path.{◌≡◌, sym, ap, ◌∙◌}
use native.Mathlib.Omega.{arith}
use Rattle.pascal.specs.Choose.{choose}
use Rattle.pascal.proofs.Choose.{choose_none}
use Rattle.pascal.proofs.Row.{entry_is_choose, entry-few}
use Rattle.pascal.proofs.Along.{Along, along}
use Rattle.pascal.proofs.recurrence.Goals as goal
use Rattle.pascal.proofs.recurrence.Goals.{In-loop-i}

-- what a turn finds
turn : (c : In-loop-i) → Along c.args.n c.loop-i.i c.loop-i.c
turn c = along _ _ _ c.requires (omega arith) c.loop-i.invariant

pub returns-then-n-k : goal.returns-then-n-k
returns-then-n-k c = sym (entry-few _ _ c.if-n-k.true)

pub loop-i-init : goal.loop-i-init
loop-i-init c = sym (choose_none _)

pub overflow_mul-c : goal.overflow_mul-c
overflow_mul-c c = omega (arith, turn (goal.at.overflow_mul-c c).In-loop-i)

pub overflow_mul-c-in-loop-i : goal.overflow_mul-c-in-loop-i
overflow_mul-c-in-loop-i c = omega (arith, turn (goal.at.overflow_mul-c-in-loop-i c).In-loop-i)

pub overflow_add-c : goal.overflow_add-c
overflow_add-c c = omega (arith, turn (goal.at.overflow_add-c c).In-loop-i)

pub loop-i-preserved : goal.loop-i-preserved
loop-i-preserved c = (turn (goal.at.loop-i-preserved c).In-loop-i).next

pub returns : goal.returns
returns c =
    let all : c.loop-i.i ≡ c.args.k = omega arith in
    c.loop-i.invariant ∙ ap (choose c.args.n) all ∙ sym (entry_is_choose _ _)
