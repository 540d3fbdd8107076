-- `wide_bits::is_empty` meets its contract. Assumes nothing.
use Rattle.std.proofs.Common.{sym, ◌∙◌, ne_eqb}
use Rattle.seam.proofs.Joined.{joined-empty, joined_some}
use Rattle.wide_bits.proofs.is_empty.Goals as goal

pub returns-then-low-eq0 : goal.returns-then-low-eq0
returns-then-low-eq0 c = joined-empty 64 c.args.a.low c.args.a.high c.if-low-eq0.true

pub returns-else-low-eq0 : goal.returns-else-low-eq0
returns-else-low-eq0 c = ne_eqb c.args.a.low 0 c.if-low-eq0.false ∙ sym (joined_some 64 c.args.a.low c.args.a.high c.if-low-eq0.false)
