-- `raising::highest` meets its contract. Assumes nothing.
use Rattle.raising.proofs.Raises.{highest_forbidden, highest_allowed}
use Rattle.raising.proofs.highest.Goals as goal

pub returns-in-Forbidden : goal.returns-in-Forbidden
returns-in-Forbidden c = highest_forbidden c.args.family c.args.n c.args.d c.saturating_sub.result c.saturating_sub-top.result c.in-Forbidden.is c.saturating_sub-top.ensures c.saturating_sub.ensures

pub returns-in-Allowed : goal.returns-in-Allowed
returns-in-Allowed c = highest_allowed c.args.family c.args.n c.args.d c.saturating_sub-top.result c.in-Allowed.is c.saturating_sub-top.ensures
