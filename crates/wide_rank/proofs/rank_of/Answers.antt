-- `wide_rank::rank_of` meets its contract. Assumes nothing.
use mathlib.Core.Path.{sym, ap, ◌∙◌}
use Rattle.widths.specs.Rules.{held_says}
use Rattle.widths.proofs.Terms.{rank_word_in}
use Rattle.wide.specs.Answers.{whole_of}
use Rattle.wide_rank.proofs.rank_of.Goals as goal

pub returns : goal.returns
returns c = c.rank.ensures ∙ ap held_says (sym (rank_word_in c.args.x.family (whole_of c.args.x)))
