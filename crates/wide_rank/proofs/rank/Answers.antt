-- `wide_rank::rank` meets its contract. Assumes nothing.
use mathlib.Core.Path.{◌≡◌, sym, ◌∙◌}
use mathlib.Core.Bool.{true, false}
use native.Mathlib.Omega.{arith}
use borrow.Author.Tests.{ltb-false, lt-ltb, le-ltb}
use lib.Dec.{ltb}
use lib.ListN.{length}
use Rattle.packing.specs.Checks.{rises, last_shifted}
use Rattle.packing.proofs.Checks.{rises_is_monotone, shifted-fit, broken, unbroken}
use Rattle.wide_rank.proofs.rank.Goals as goal

pub returns-then-word-gt128 : goal.returns-then-word-gt128
returns-then-word-gt128 c = simp (lt-ltb _ _ c.if-word-gt128.true)

pub returns-then-at-word : goal.returns-then-at-word
returns-then-at-word c =
    let l : ltb 128 (length c.args.word.now) ≡ false = le-ltb 128 (length c.args.word.now) c.if-word-gt128.false in
    let r : rises c.args.family c.args.word.now ≡ false = broken c.args.family c.args.word.now _ c.break_at-at.ensures c.if-at-word.true in
    simp (l, r, c.break_at-at.ensures)

pub returns-then-past_top : goal.returns-then-past_top
returns-then-past_top c =
    let l : ltb 128 (length c.args.word.now) ≡ false = le-ltb 128 (length c.args.word.now) c.if-word-gt128.false in
    let r : rises c.args.family c.args.word.now ≡ true = unbroken c.args.family c.args.word.now _ c.break_at-at.ensures c.if-at-word.false in
    let t : ltb 127 (last_shifted c.args.family c.args.word.now) ≡ true = sym c.past_top.ensures ∙ c.if-past_top.true in
    simp (l, r, t)

pub weighed-requires : goal.weighed-requires
weighed-requires c =
    let r : rises c.args.family c.args.word.now ≡ true = unbroken c.args.family c.args.word.now _ c.break_at-at.ensures c.if-at-word.false in
    let t : ltb 127 (last_shifted c.args.family c.args.word.now) ≡ false = sym c.past_top.ensures ∙ c.if-past_top.false in
    (omega arith, shifted-fit c.args.family 0 128 c.args.word.now ((rises_is_monotone c.args.family c.args.word.now).0 r) (omega (arith, ltb-false 127 (last_shifted c.args.family c.args.word.now) t)))

pub returns : goal.returns
returns c =
    let l : ltb 128 (length c.args.word.now) ≡ false = le-ltb 128 (length c.args.word.now) c.if-word-gt128.false in
    let r : rises c.args.family c.args.word.now ≡ true = unbroken c.args.family c.args.word.now _ c.break_at-at.ensures c.if-at-word.false in
    let t : ltb 127 (last_shifted c.args.family c.args.word.now) ≡ false = sym c.past_top.ensures ∙ c.if-past_top.false in
    simp (l, r, t) c.weighed.ensures
