-- `conversion::has_entries` meets its contract. Assumes nothing.
use Rattle.conversion.proofs.Copying.{entries_none, entries_some}
use Rattle.conversion.proofs.has_entries.Goals as goal

pub returns-then-whole-ne0 : goal.returns-then-whole-ne0
returns-then-whole-ne0 c = entries_none c.args.bytes c.args.c c.if-whole-ne0.true

pub returns : goal.returns
returns c = entries_some c.args.bytes c.args.c c.if-whole-ne0.false
