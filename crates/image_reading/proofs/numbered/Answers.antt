-- `image_reading::numbered` meets its contract. Assumes nothing.
use mathlib.Core.Path.{sym, ap, ◌∙◌}
use Prim.Native.Nat.{ℕ}
use lib.ListN.{length}
use Rattle.answers.specs.Says.{Says, and_then, answer_says}
use Rattle.answers.proofs.Says.{passed_on}
use Rattle.image_rules.proofs.Good.{good_exactly, contents_within}
use Rattle.image_reading.specs.Reading.{number_of_family, find_row}
use Rattle.image_reading.proofs.numbered.Goals as goal

pub find-requires : goal.find-requires
find-requires c = let g = (good_exactly c.args.image.now (length c.args.image.now) c.in_ok-t.t).0 (sym c.check.ensures ∙ ap answer_says c.in_ok-t.was) in (g.few, contents_within c.args.image.now (length c.args.image.now) c.in_ok-t.t g)

pub returns-in_err-t : goal.returns-in_err-t
returns-in_err-t c =
    passed_on c.from_residual.result _ c.from_residual.ensures.1
    ∙ sym (ap (λ (s : Says ℕ). and_then s (λ (t : ℕ). find_row c.args.image.now (number_of_family c.args.family) c.args.k t)) (sym c.check.ensures ∙ ap answer_says c.in_err-t.was))

pub returns : goal.returns
returns c = c.find.ensures ∙ ap (λ (f : ℕ). find_row c.args.image.now f c.args.k c.in_ok-t.t) c.number_of.ensures ∙ sym (ap (λ (s : Says ℕ). and_then s (λ (t : ℕ). find_row c.args.image.now (number_of_family c.args.family) c.args.k t)) (sym c.check.ensures ∙ ap answer_says c.in_ok-t.was))
