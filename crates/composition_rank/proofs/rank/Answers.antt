-- `composition_rank::rank` meets its contract: the rank is that of the word. Assumes nothing.
use mathlib.Core.Path.{◌∙◌}
use native.Mathlib.Omega.{arith}
use Rattle.composition.proofs.Checks.{degree-wide, degree_fits}
use Rattle.composition_rank.proofs.Passing.{rank_by_word}
use Rattle.composition_rank.proofs.rank.Goals as goal

pub returns-then-k-gt64 : goal.returns-then-k-gt64
returns-then-k-gt64 c = simp (degree-wide c.args.entries.now _ c.degree-k.ensures c.if-k-gt64.true)

pub spell-requires : goal.spell-requires
spell-requires c = omega (arith, (degree_fits c.args.entries.now c.degree-k.result c.degree-k.ensures c.if-k-gt64.false).1)

pub returns : goal.returns
returns c = c.rank.ensures ∙ rank_by_word c.args.entries.now _ _ c.degree-k.result c.degree-k.ensures c.if-k-gt64.false c.spell.ensures
