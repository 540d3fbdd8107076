-- `count::at` meets its contract: right of the diagonal stand zeros, at its ends ones, and the others are cells or their mirror images. Assumes nothing.
use mathlib.Core.Path.{sym, ◌∙◌}
use native.Mathlib.Omega.{arith}
use Rattle.pascal.proofs.Row.{entry-few, entry_none}
use Rattle.count.proofs.at.Goals as goal

pub returns-then-n-k : goal.returns-then-n-k
returns-then-n-k c = sym (entry-few _ _ c.if-n-k.true)

pub returns-then-j-eq0 : goal.returns-then-j-eq0
returns-then-j-eq0 c = sym (entry_none c.args.n _ c.if-j-eq0.true) ∙ c.nearer-j.ensures.0

pub near-requires : goal.near-requires
near-requires c = (omega arith, omega arith, omega (arith, c.nearer-j.ensures.1))

pub returns : goal.returns
returns c = c.near.ensures ∙ c.nearer-j.ensures.0
