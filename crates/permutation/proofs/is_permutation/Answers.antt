-- `permutation::is_permutation` meets its contract: the digits of the marks are the entries passed. Assumes nothing.
use mathlib.Core.Path.{sym}
use native.Mathlib.Omega.{arith}
use lib.ListN.{get_or}
use Rattle.seen.proofs.Turns.{one_digit}
use Rattle.permutation.proofs.Seen.{seen_none, seen_more, seen_all, seen-large, seen-again}
use Rattle.permutation.proofs.is_permutation.Goals as goal

pub loop-i-init : goal.loop-i-init
loop-i-init c = seen_none c.args.entries.now c.args.n

pub returns-then-x-n : goal.returns-then-x-n
returns-then-x-n c =
    sym (seen-large c.args.entries.now c.args.n (omega (arith, c.requires.0, c.requires.1)) c.loop-i.i c.loop-i-test.true c.if-x-n.true)

pub returns-then-seen-one-ne0 : goal.returns-then-seen-one-ne0
returns-then-seen-one-ne0 c =
    sym (seen-again c.args.entries.now c.args.n (omega (arith, c.requires.0, c.requires.1)) c.loop-i.i c.loop-i.seen _ c.loop-i.invariant c.loop-i-test.true (one_digit 64 (get_or c.args.entries.now c.loop-i.i 0) (omega (arith, c.requires.0, c.if-x-n.false))) c.if-seen-one-ne0.true)

pub loop-i-preserved : goal.loop-i-preserved
loop-i-preserved c =
    (seen_more c.args.entries.now c.args.n c.loop-i.i c.loop-i.seen _ c.loop-i.invariant c.if-x-n.false (one_digit 64 (get_or c.args.entries.now c.loop-i.i 0) (omega (arith, c.requires.0, c.if-x-n.false))) c.if-seen-one-ne0.false)

pub returns : goal.returns
returns c =
    sym (seen_all c.args.entries.now c.args.n (omega (arith, c.requires.0, c.requires.1)) c.loop-i.i c.loop-i.seen c.loop-i.invariant c.loop-i-test.false)
