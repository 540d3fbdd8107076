-- `digits_algebra::multiplicity` meets its contract: the symbols are written into a buffer and counted. Assumes nothing.
use mathlib.Core.Path.{sym, ap, ◌∙◌}
use Rattle.answers.specs.Says.{gives, answer_says}
use Rattle.answers.proofs.Says.{passed_on}
use Rattle.words.specs.Inversions.{multiplicity as multiplicity_of}
use Rattle.digits.specs.Rules.{symbols_of}
use Rattle.digits.proofs.Rules.{given_passed, given_refused}
use Rattle.digits_algebra.proofs.Buffer.{unspelt, spelt}
use Rattle.digits_algebra.proofs.multiplicity.Goals as goal

pub returns-in_err-k : goal.returns-in_err-k
returns-in_err-k c =
    passed_on c.from_residual.result _ c.from_residual.ensures.1 ∙ sym (given_refused c.args.x _ _ (gives (multiplicity_of c.args.s (symbols_of c.args.x))) (unspelt c.args.x _ _ (sym (ap answer_says c.in_err-k.was) ∙ c.symbols.ensures.says)))

pub returns : goal.returns
returns c =
    let b = spelt c.args.x _ _ _ (sym (ap answer_says c.in_ok-k.was) ∙ c.symbols.ensures.says) c.symbols.ensures.holds in
    ap gives (c.occurrences.ensures ∙ ap (multiplicity_of c.args.s) b.front) ∙ sym (given_passed c.args.x b.count (gives (multiplicity_of c.args.s (symbols_of c.args.x))) b.checks)
