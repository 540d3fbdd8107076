-- `packing::may_follow` meets its contract, by cases on the family. Assumes nothing.
use Rattle.packing.proofs.may_follow.Goals as goal

pub returns-in-Forbidden : goal.returns-in-Forbidden
returns-in-Forbidden c = simp c.in-Forbidden.is

pub returns-in-Allowed : goal.returns-in-Allowed
returns-in-Allowed c = simp c.in-Allowed.is
