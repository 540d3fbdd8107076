-- `monotone::checked_bits` meets its contract: each return by the checks that led there. Assumes nothing.
use mathlib.Core.Path.{◌≡◌, sym, ◌∙◌}
use mathlib.Core.Bool.{true, false}
use borrow.Author.Tests.{lt-ltb, le-ltb, ltb-false}
use lib.Dec.{ltb}
use Rattle.packing.specs.Checks.{rises, last_shifted}
use Rattle.monotone.proofs.Rules.{ranked_fits}
use Rattle.packing.proofs.Checks.{broken, unbroken}
use Rattle.monotone.proofs.checked_bits.Goals as goal

pub returns-then-word-gt64 : goal.returns-then-word-gt64
returns-then-word-gt64 c = simp (lt-ltb _ _ c.if-word-gt64.true)

pub returns-then-at-word : goal.returns-then-at-word
returns-then-at-word c =
    let r : rises c.args.family c.args.word.now ≡ false = broken c.args.family c.args.word.now _ c.break_at-at.ensures c.if-at-word.true in
    simp (le-ltb _ _ c.if-word-gt64.false, r, c.break_at-at.ensures)

pub returns-then-past_top : goal.returns-then-past_top
returns-then-past_top c =
    let r : rises c.args.family c.args.word.now ≡ true = unbroken c.args.family c.args.word.now _ c.break_at-at.ensures c.if-at-word.false in
    let t : ltb 63 (last_shifted c.args.family c.args.word.now) ≡ true = sym c.past_top.ensures ∙ c.if-past_top.true in
    simp (le-ltb _ _ c.if-word-gt64.false, r, t)

pub bits_of-bits-requires : goal.bits_of-bits-requires
bits_of-bits-requires c =
    ranked_fits c.args.family c.args.word.now (unbroken c.args.family c.args.word.now _ c.break_at-at.ensures c.if-at-word.false) (ltb-false 63 _ (sym c.past_top.ensures ∙ c.if-past_top.false))

pub returns : goal.returns
returns c =
    let r : rises c.args.family c.args.word.now ≡ true = unbroken c.args.family c.args.word.now _ c.break_at-at.ensures c.if-at-word.false in
    let t : ltb 63 (last_shifted c.args.family c.args.word.now) ≡ false = sym c.past_top.ensures ∙ c.if-past_top.false in
    simp (le-ltb _ _ c.if-word-gt64.false, r, t, c.bits_of-bits.ensures)
