-- `image_reading::row` meets its contract. Assumes nothing.
use mathlib.Core.Path.{sym, ap, ◌∙◌}
use Prim.Native.Nat.{ℕ}
use Rattle.answers.specs.Says.{Says, gives, and_then, answer_says}
use Rattle.answers.proofs.Says.{passed_on}
use Rattle.image_reading.specs.Reading.{table_at}
use Rattle.image_reading.proofs.Looking.{row_given}
use Rattle.image_reading.proofs.row.Goals as goal

pub named-requires : goal.named-requires
named-requires c = (row_given c.args.image.now c.args.family c.args.k c.in_ok-i.i (sym c.numbered.ensures ∙ ap answer_says c.in_ok-i.was)).row

pub returns-in_err-i : goal.returns-in_err-i
returns-in_err-i c =
    passed_on c.from_residual.result _ c.from_residual.ensures.1
    ∙ sym (ap (λ (s : Says ℕ). and_then s (λ (i : ℕ). gives (table_at c.args.image.now i))) (sym c.numbered.ensures ∙ ap answer_says c.in_err-i.was))

pub returns : goal.returns
returns c = ap gives c.named.ensures ∙ sym (ap (λ (s : Says ℕ). and_then s (λ (i : ℕ). gives (table_at c.args.image.now i))) (sym c.numbered.ensures ∙ ap answer_says c.in_ok-i.was))
