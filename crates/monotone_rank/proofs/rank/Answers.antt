-- `monotone_rank::rank` meets its contract: a refusal of the checks is passed on. Assumes nothing.
use mathlib.Core.Path.{sym, ap, ◌∙◌}
use Rattle.words.specs.declared.Family.TheVariants.{Forbidden}
use Rattle.words.specs.Rank.{rank_of}
use Rattle.words.specs.Bits.{set_bits}
use Rattle.answers.specs.Says.{gives, and_then, answer_says}
use Rattle.answers.proofs.Says.{passed_on}
use Rattle.monotone_rank.proofs.Passing.{rank_by_bits}
use Rattle.monotone_rank.proofs.rank.Goals as goal

pub returns-in_err-bits : goal.returns-in_err-bits
returns-in_err-bits c =
    passed_on c.from_residual.result _ c.from_residual.ensures.1
    ∙ sym (rank_by_bits c.args.family c.args.word.now ∙ ap (λ s. and_then s (λ b. gives (rank_of Forbidden (set_bits b)))) (sym c.checked_bits.ensures ∙ ap answer_says c.in_err-bits.was))

pub returns : goal.returns
returns c =
    ap gives c.rank.ensures
    ∙ sym (rank_by_bits c.args.family c.args.word.now ∙ ap (λ s. and_then s (λ b. gives (rank_of Forbidden (set_bits b)))) (sym c.checked_bits.ensures ∙ ap answer_says c.in_ok-bits.was))
