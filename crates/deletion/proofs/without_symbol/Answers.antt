-- `deletion::without_symbol` meets its contract: each arm has the digits of the word without position p. Assumes nothing.
use mathlib.Core.Path.{◌≡◌, refl, sym, ap}
use mathlib.Core.Bool.{true}
use native.Mathlib.Omega.{arith}
use borrow.Author.Rules.{rules}
use borrow.Author.Tests.{le-leb}
use lib.Dec.{leb}
use lib.ListN.{length}
use Rattle.words.specs.declared.Family.{Family}
use Rattle.words.specs.declared.Family.TheVariants.{Forbidden, Allowed}
use Rattle.words.specs.Word.{shift}
use Rattle.answers.specs.Terms.{word_of}
use Rattle.answers.proofs.Terms.{word_long}
use Rattle.packing.proofs.Symbols.{symbol-shift}
use Rattle.deletion.proofs.Deleting.{symbol_below, deletion_gives}
use Rattle.deletion.proofs.without_symbol.Goals as goal

pub returns-then-count_ones-p : goal.returns-then-count_ones-p
returns-then-count_ones-p c =
    let t : leb (length (word_of c.args.x)) c.args.p ≡ true = le-leb (length (word_of c.args.x)) c.args.p (omega (arith, word_long c.args.x)) in
    simp t

pub overflow_add-s : goal.overflow_add-s
overflow_add-s c =
    omega (arith, symbol_below 64 c.args.x.bits c.args.p c.nth-s.result 64 (search rules) (omega arith) c.nth-s.ensures)

pub overflow_add-s-in-Forbidden : goal.overflow_add-s-in-Forbidden
overflow_add-s-in-Forbidden c =
    omega (arith, symbol_below 64 c.args.x.bits c.args.p c.nth-s.result 64 (search rules) (omega arith) c.nth-s.ensures)

pub overflow_sub-symbol : goal.overflow_sub-symbol
overflow_sub-symbol c =
    symbol-shift c.args.x c.args.p c.nth-s.result c.args.p (omega arith) c.nth-s.ensures
    (sym (ap (λ (F : Family). shift F c.args.p) c.in-Allowed.is))

pub returns-in-Forbidden : goal.returns-in-Forbidden
returns-in-Forbidden c =
    deletion_gives c.args.x Forbidden c.args.p _
    c.in-Forbidden.is (search rules) (omega arith) c.nth-s.ensures c.from_parity.ensures (omega arith) (omega arith)
    c.low_mask.ensures c.shr_total-above.ensures c.shl_total.ensures

pub returns-in-Allowed : goal.returns-in-Allowed
returns-in-Allowed c =
    deletion_gives c.args.x Allowed c.args.p _
    c.in-Allowed.is (search rules) (omega arith) c.nth-s.ensures refl (omega arith) (omega arith)
    c.low_mask.ensures c.shr_total-above.ensures c.shl_total-in-Allowed.ensures
