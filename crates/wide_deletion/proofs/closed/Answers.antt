-- `wide_deletion::closed` meets its contract. Assumes nothing.
use Rattle.seam.proofs.Joined.{joined-lt}
use Rattle.wide_deletion.proofs.Closing.{closed_up}
use borrow.Author.Rules.{rules}
use Rattle.wide_deletion.proofs.closed.Goals as goal

pub returns : goal.returns
returns c = closed_up 128 _ _ _ _ _ _ _ (joined-lt 64 64 c.args.a.low c.args.a.high (search rules) (search rules)) c.requires.2 c.lower-below.ensures c.shr_total-above.ensures c.shl_total.ensures c.add.ensures
