-- `wide_successor::later` meets its contract. Assumes nothing.
use mathlib.Core.Path.{sym, ◌∙◌}
use Rattle.seam.proofs.Joined.{joined-lt}
use Rattle.seam.proofs.Later.{ended, stepped}
use borrow.Author.Rules.{rules}
use Rattle.wide_successor.proofs.later.Goals as goal

pub returns-then-is_empty : goal.returns-then-is_empty
returns-then-is_empty c = ended 128 _ _ _ _ (joined-lt 64 64 c.args.a.low c.args.a.high (search rules) (search rules)) c.lowest-z.ensures c.bit.ensures c.add-carried.ensures (sym c.is_empty.ensures ∙ c.if-is_empty.true)

pub returns : goal.returns
returns c = stepped 128 _ _ _ _ _ _ _ _ (joined-lt 64 64 c.args.a.low c.args.a.high (search rules) (search rules)) c.lowest-z.ensures c.bit.ensures c.add-carried.ensures (sym c.is_empty.ensures ∙ c.if-is_empty.false)
    c.xor.ensures c.shr_total-run.ensures c.shr_total.ensures c.add.ensures
