-- `permutation::image` meets its contract: the refusal of the check is passed on, and the other returns are by the tests that led there. Assumes nothing.
use mathlib.Core.Path.{sym, ◌∙◌}
use native.Mathlib.Omega.{arith}
use borrow.Author.Rules.{rules}
use borrow.Author.Tests.{le-leb, lt-leb}
use Rattle.answers.proofs.Says.{passed_on}
use Rattle.permutation.proofs.Taken.{word_at, taken_holds, verdict-refuses, verdict-gives}
use Rattle.permutation.proofs.image.Goals as goal

pub returns-in_err-checked : goal.returns-in_err-checked
returns-in_err-checked c =
    passed_on c.from_residual.result _ c.from_residual.ensures.1
    ∙ sym (simp (verdict-refuses c.args.p _ c.checked.ensures _ c.in_err-checked.was))

pub returns-then-i-n : goal.returns-then-i-n
returns-then-i-n c =
    let h = verdict-gives c.args.p _ c.checked.ensures _ c.in_ok-checked.was (search rules) in
    simp (taken_holds c.args.p h, le-leb c.args.p.len c.args.i c.if-i-n.true)

pub offset_bounds-p-i : goal.offset_bounds-p-i
offset_bounds-p-i c =
    let h = verdict-gives c.args.p _ c.checked.ensures _ c.in_ok-checked.was (search rules) in
    omega (arith, h.short)

pub bounds-p-i : goal.bounds-p-i
bounds-p-i c =
    let h = verdict-gives c.args.p _ c.checked.ensures _ c.in_ok-checked.was (search rules) in
    omega (arith, h.short)

pub returns : goal.returns
returns c =
    let h = verdict-gives c.args.p _ c.checked.ensures _ c.in_ok-checked.was (search rules) in
    simp (taken_holds c.args.p h, lt-leb c.args.p.len c.args.i c.if-i-n.false, word_at c.args.p c.args.i c.if-i-n.false)
