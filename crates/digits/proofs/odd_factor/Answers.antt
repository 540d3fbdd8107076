-- `digits::odd_factor` meets its contract. Assumes nothing.
use Rattle.digits.proofs.Powers.{odd-alone, odd_none}
use Rattle.digits.proofs.odd_factor.Goals as goal

pub returns-then-left-eq0 : goal.returns-then-left-eq0
returns-then-left-eq0 c = odd_none c.args.base c.args.left c.if-left-eq0.true

pub returns : goal.returns
returns c = odd-alone c.args.base c.args.left c.if-left-eq0.false
