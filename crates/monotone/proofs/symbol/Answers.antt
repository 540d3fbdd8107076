-- `monotone::symbol` meets its contract: the record is taken, and the set tells by 64 that it has no such position. Assumes nothing.
use mathlib.Core.Path.{◌≡◌, ◌∙◌}
use mathlib.Core.Bool.{true, false}
use Prim.Native.Nat.{◌-◌, ◌^◌, ◌<◌}
use native.Mathlib.Omega.{arith}
use borrow.Author.Tests.{le-leb, lt-leb}
use lib.Dec.{leb}
use lib.ListN.{length, get_or}
use Rattle.words.specs.Bits.{set_bits}
use Rattle.answers.specs.Says.{gives, refuses, refused_if}
use Rattle.answers.specs.Terms.{word_of}
use Rattle.answers.proofs.Says.{passed_on}
use Rattle.answers.proofs.Terms.{word_long}
use Rattle.packing.proofs.Symbols.{symbol_at, symbol-shift}
use Rattle.taking.proofs.Accepted.{took}
use borrow.Author.Rules.{rules}
use Rattle.monotone.proofs.Nth.{nth_missing, nth_there}
use Rattle.monotone.proofs.symbol.Goals as goal

pub returns-in_err-take : goal.returns-in_err-take
returns-in_err-take c =
    passed_on c.from_residual.result _ c.from_residual.ensures.1
    ∙ took c.args.x (refused_if (leb (length (word_of c.args.x)) c.args.p) 7 (gives (get_or (word_of c.args.x) c.args.p 0))) c.take.result _ c.take.ensures c.in_err-take.was

pub returns-then-s-eq64 : goal.returns-then-s-eq64
returns-then-s-eq64 c =
    let b : c.args.x.bits < 2 ^ 64 = search rules in
    let t : leb (length (word_of c.args.x)) c.args.p ≡ true = le-leb (length (word_of c.args.x)) c.args.p (omega (arith, word_long c.args.x, nth_missing c.args.x.bits c.args.p _ b c.nth-s.ensures c.if-s-eq64.true)) in
    let u : refuses 7 ≡ refused_if (leb (length (word_of c.args.x)) c.args.p) 7 (gives (get_or (word_of c.args.x) c.args.p 0)) = simp t in
    u ∙ took c.args.x (refused_if (leb (length (word_of c.args.x)) c.args.p) 7 (gives (get_or (word_of c.args.x) c.args.p 0))) c.take.result _ c.take.ensures c.in_ok-take.was

pub overflow_sub-result : goal.overflow_sub-result
overflow_sub-result c =
    let h : c.args.p < length (set_bits c.args.x.bits) = nth_there c.args.x.bits c.args.p _ c.nth-s.ensures c.if-s-eq64.false in
    symbol-shift c.args.x c.args.p c.nth-s.result c.shift.result h c.nth-s.ensures c.shift.ensures

pub returns : goal.returns
returns c =
    let h : c.args.p < length (set_bits c.args.x.bits) = nth_there c.args.x.bits c.args.p c.nth-s.result c.nth-s.ensures c.if-s-eq64.false in
    let t : leb (length (word_of c.args.x)) c.args.p ≡ false = lt-leb (length (word_of c.args.x)) c.args.p (omega (arith, h, word_long c.args.x)) in
    let e : c.nth-s.result - c.shift.result ≡ get_or (word_of c.args.x) c.args.p 0 = symbol_at c.args.x c.args.p c.nth-s.result c.shift.result h c.nth-s.ensures c.shift.ensures in
    let u : gives (c.nth-s.result - c.shift.result) ≡ refused_if (leb (length (word_of c.args.x)) c.args.p) 7 (gives (get_or (word_of c.args.x) c.args.p 0)) = simp (t, e) in
    u ∙ took c.args.x (refused_if (leb (length (word_of c.args.x)) c.args.p) 7 (gives (get_or (word_of c.args.x) c.args.p 0))) c.take.result _ c.take.ensures c.in_ok-take.was
