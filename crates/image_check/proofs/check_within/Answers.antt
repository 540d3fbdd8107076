-- `image_check::check_within` meets its contract. Assumes nothing.
use mathlib.Core.Path.{◌≡◌, sym, ap, subst, ◌∙◌}
use mathlib.Core.Bool.{true}
use Prim.Native.Nat.{ℕ, ◌+◌, ◌*◌}
use native.Mathlib.Omega.{arith}
use borrow.Author.Tests.{lt-ltb, le-ltb}
use lib.ListN.{get_or, set}
use Rattle.answers.specs.Says.{answer_says}
use Rattle.answers.proofs.Says.{passed_on}
use Rattle.little_endian.specs.Bytes.{number_at}
use Rattle.image_check.proofs.Turns.{Turn, turn_none, turn_more, turn_good, turn_stopped, turn_end}
use Rattle.image_rules.proofs.Good.{tables_short, tables_none, tables-many}
use Rattle.image_check.proofs.check_within.Goals as goal

pub returns-then-size-lt4 : goal.returns-then-size-lt4
returns-then-size-lt4 c = c.bad.ensures ∙ sym (tables_short c.args.s.now c.args.size c.if-size-lt4.true)

pub four-t-requires : goal.four-t-requires
four-t-requires c = omega (arith, c.requires.to 4 (omega arith) (omega arith))

pub returns-then-t-eq0 : goal.returns-then-t-eq0
returns-then-t-eq0 c = c.bad-then-t-eq0.ensures ∙ sym (tables_none c.args.s.now c.args.size c.if-size-lt4.false (sym c.four-t.ensures.0 ∙ c.if-t-eq0.true))

pub returns-then-t-gt64 : goal.returns-then-t-gt64
returns-then-t-gt64 c = c.bad-then-t-gt64.ensures ∙ sym (tables-many c.args.s.now c.args.size c.if-size-lt4.false (omega (arith, c.four-t.ensures.0)))

pub loop-i-init : goal.loop-i-init
loop-i-init c = turn_none c.args.s.now c.args.size c.four-t.result c.if-size-lt4.false c.if-t-eq0.false c.if-t-gt64.false c.four-t.ensures.0

pub row-requires : goal.row-requires
row-requires c = (c.requires, omega (arith, c.loop-i.invariant.few, c.loop-i-test.true), c.loop-i.invariant.low)

pub returns-in_err-c : goal.returns-in_err-c
returns-in_err-c c =
    passed_on c.from_residual.result _ c.from_residual.ensures.1
    ∙ sym (turn_stopped c.args.s.now c.args.size c.four-t.result c.loop-i.i c.loop-i.place c.loop-i.used (number_at c.args.s.now (4 + 12 * c.loop-i.i + 8) 4) _ _ c.loop-i.invariant c.loop-i-test.true (sym c.row.ensures ∙ ap answer_says c.in_err-c.was))

pub bounds-s-j : goal.bounds-s-j
bounds-s-j c =
    let q = turn_good c.args.s.now c.args.size c.four-t.result c.loop-i.i c.loop-i.place c.in_ok-c.c c.loop-i.used c.loop-i.invariant c.loop-i-test.true (sym c.row.ensures ∙ ap answer_says c.in_ok-c.was) in omega (arith, q.0.fits, c.requires.to (4 + 12 * c.loop-i.i + 1) (omega (arith, q.0.fits)) (omega (arith, c.loop-i.invariant.few, c.loop-i-test.true)))

pub bounds-s-j-in-loop-i : goal.bounds-s-j-in-loop-i
bounds-s-j-in-loop-i c =
    let q = turn_good c.args.s.now c.args.size c.four-t.result c.loop-i.i c.loop-i.place c.in_ok-c.c c.loop-i.used c.loop-i.invariant c.loop-i-test.true (sym c.row.ensures ∙ ap answer_says c.in_ok-c.was) in omega (arith, q.0.fits, c.requires.to (4 + 12 * c.loop-i.i + 2) (omega (arith, q.0.fits)) (omega (arith, c.loop-i.invariant.few, c.loop-i-test.true)))

pub bounds-used-wide : goal.bounds-used-wide
bounds-used-wide c =
    let q = turn_good c.args.s.now c.args.size c.four-t.result c.loop-i.i c.loop-i.place c.in_ok-c.c c.loop-i.used c.loop-i.invariant c.loop-i-test.true (sym c.row.ensures ∙ ap answer_says c.in_ok-c.was) in omega (arith, q.0.family, q.0.degree, c.wide.ensures.0, c.wide-in-loop-i.ensures.0, c.loop-i.invariant.long)

pub overflow_mul-place-in-loop-i : goal.overflow_mul-place-in-loop-i
overflow_mul-place-in-loop-i c =
    let q = turn_good c.args.s.now c.args.size c.four-t.result c.loop-i.i c.loop-i.place c.in_ok-c.c c.loop-i.used c.loop-i.invariant c.loop-i-test.true (sym c.row.ensures ∙ ap answer_says c.in_ok-c.was) in omega (arith, q.0.ends, q.1)

pub overflow_add-place-in-loop-i : goal.overflow_add-place-in-loop-i
overflow_add-place-in-loop-i c =
    let q = turn_good c.args.s.now c.args.size c.four-t.result c.loop-i.i c.loop-i.place c.in_ok-c.c c.loop-i.used c.loop-i.invariant c.loop-i-test.true (sym c.row.ensures ∙ ap answer_says c.in_ok-c.was) in omega (arith, q.0.ends, q.1)

pub loop-i-preserved : goal.loop-i-preserved
loop-i-preserved c =
    let m = turn_more c.args.s.now c.args.size c.four-t.result c.loop-i.i c.loop-i.place c.in_ok-c.c c.loop-i.used c.loop-i.invariant c.loop-i-test.true (sym c.row.ensures ∙ ap answer_says c.in_ok-c.was) in
    let e : 65 * get_or c.args.s.now (4 + 12 * c.loop-i.i) 0 + get_or c.args.s.now (4 + 12 * c.loop-i.i + 1) 0 ≡ 65 * c.wide.result + c.wide-in-loop-i.result = omega (arith, c.wide.ensures.0, c.wide-in-loop-i.ensures.0) in
    subst (λ (j : ℕ). Turn c.args.s.now c.args.size c.four-t.result (c.loop-i.i + 1) (c.loop-i.place + 8 * c.in_ok-c.c) (set c.loop-i.used j true)) e m

pub returns-then-size-place : goal.returns-then-size-place
returns-then-size-place c = c.bad-then-size-place.ensures ∙ sym (turn_end c.args.s.now c.args.size c.four-t.result c.loop-i.i c.loop-i.place c.loop-i.used c.loop-i.invariant c.loop-i-test.false ∙ simp (lt-ltb c.args.size c.loop-i.place c.if-size-place.true))

pub returns-then-place-size : goal.returns-then-place-size
returns-then-place-size c = c.bad-then-place-size.ensures ∙ sym (turn_end c.args.s.now c.args.size c.four-t.result c.loop-i.i c.loop-i.place c.loop-i.used c.loop-i.invariant c.loop-i-test.false ∙ simp (le-ltb c.args.size c.loop-i.place c.if-size-place.false, lt-ltb c.loop-i.place c.args.size c.if-place-size.true))

pub returns : goal.returns
returns c = sym (turn_end c.args.s.now c.args.size c.four-t.result c.loop-i.i c.loop-i.place c.loop-i.used c.loop-i.invariant c.loop-i-test.false ∙ simp (le-ltb c.args.size c.loop-i.place c.if-size-place.false, le-ltb c.loop-i.place c.args.size c.if-place-size.false))
