-- `permutation::nothing_past` meets its contract: the entries passed are joined, and are 0 together exactly where each is. Assumes nothing.
use mathlib.Core.Path.{sym}
use native.Mathlib.Omega.{arith}
use lib.ListN.{drop, length-drop}
use Rattle.permutation.proofs.Past.{scan_more, scan-finds-none, scan-finds-some, the-rest}
use Rattle.permutation.proofs.nothing_past.Goals as goal

pub loop-x-preserved : goal.loop-x-preserved
loop-x-preserved c =
    rw (the-rest c.args.entries.now c.args.n c.requires.1) (scan_more (drop c.args.n c.args.entries.now) c.loop-x.x-index c.loop-x.all c.loop-x.invariant)

pub returns-then-all-eq0 : goal.returns-then-all-eq0
returns-then-all-eq0 c =
    sym (scan-finds-none (drop c.args.n c.args.entries.now) c.loop-x.x-index c.loop-x.all (omega (arith, c.requires.1, length-drop c.args.n c.args.entries.now)) c.loop-x.invariant c.if-all-eq0.true)

pub returns : goal.returns
returns c =
    sym (scan-finds-some (drop c.args.n c.args.entries.now) c.loop-x.x-index c.loop-x.all (omega (arith, c.requires.1, length-drop c.args.n c.args.entries.now)) c.loop-x.invariant c.if-all-eq0.false)
