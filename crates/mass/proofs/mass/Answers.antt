-- `mass::mass` meets its contract: the join, then the mass of the sample. Assumes nothing.
use mathlib.Core.Path.{sym, ap, ◌∙◌}
use Rattle.answers.specs.Says.{Says, and_then}
use Rattle.mass.specs.declared.Sample.{Sample}
use Rattle.mass.specs.Mass.{framed_says, sample_says}
use Rattle.mass.proofs.Cases.{framed-on}
use Rattle.mass.proofs.mass.Goals as goal

pub returns-in_err-s : goal.returns-in_err-s
returns-in_err-s c =
    framed-on c.from_residual.result _ c.from_residual.ensures.1
    ∙ sym (ap (λ (j : Says Sample). and_then j (λ (x : Sample). sample_says c.args.image.now x)) (sym c.join.ensures ∙ ap framed_says c.in_err-s.was))

pub returns : goal.returns
returns c = c.of_sample.ensures ∙ sym (ap (λ (j : Says Sample). and_then j (λ (x : Sample). sample_says c.args.image.now x)) (sym c.join.ensures ∙ ap framed_says c.in_ok-s.was))
