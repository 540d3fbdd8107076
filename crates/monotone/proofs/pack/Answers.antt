-- `monotone::pack` meets its contract: a refusal of the checks is passed on, and the symbols are held against n. Assumes nothing.
use mathlib.Core.Path.{sym, ap, ◌∙◌}
use borrow.Author.Tests.{lt-ltb, le-ltb, ltb-false}
use lib.ListN.{length}
use Rattle.words.specs.Word.{shifted_alphabet}
use Rattle.bits.specs.Member.{reaches}
use Rattle.answers.specs.Says.{gives, refused_if, and_then, answer_says}
use Rattle.answers.proofs.Says.{passed_on}
use Rattle.monotone.proofs.Passing.{pack_by_bits}
use Rattle.monotone.proofs.pack.Goals as goal

pub returns-then-word-gt64 : goal.returns-then-word-gt64
returns-then-word-gt64 c = simp (lt-ltb _ _ c.if-word-gt64.true)

pub returns-then-too_wide : goal.returns-then-too_wide
returns-then-too_wide c =
    simp (le-ltb _ _ c.if-word-gt64.false, sym c.too_wide.ensures ∙ c.if-too_wide.true)

pub returns-in_err-bits : goal.returns-in_err-bits
returns-in_err-bits c =
    passed_on c.from_residual.result _ c.from_residual.ensures.1
    ∙ sym (pack_by_bits c.args.family c.args.n c.args.word.now c.if-word-gt64.false (ltb-false 64 (shifted_alphabet c.args.family c.args.n (length c.args.word.now)) (sym c.too_wide.ensures ∙ c.if-too_wide.false)) ∙ ap (λ s. and_then s (λ b. refused_if (reaches c.args.n c.args.word.now) 7 (gives (record { family = c.args.family; alphabet = c.args.n; bits = b })))) (sym c.checked_bits.ensures ∙ ap answer_says c.in_err-bits.was))

pub returns-then-reaches : goal.returns-then-reaches
returns-then-reaches c =
    sym (pack_by_bits c.args.family c.args.n c.args.word.now c.if-word-gt64.false (ltb-false 64 (shifted_alphabet c.args.family c.args.n (length c.args.word.now)) (sym c.too_wide.ensures ∙ c.if-too_wide.false)) ∙ ap (λ s. and_then s (λ b. refused_if (reaches c.args.n c.args.word.now) 7 (gives (record { family = c.args.family; alphabet = c.args.n; bits = b })))) (sym c.checked_bits.ensures ∙ ap answer_says c.in_ok-bits.was) ∙ simp (sym c.reaches.ensures ∙ c.if-reaches.true))

pub returns : goal.returns
returns c =
    sym (pack_by_bits c.args.family c.args.n c.args.word.now c.if-word-gt64.false (ltb-false 64 (shifted_alphabet c.args.family c.args.n (length c.args.word.now)) (sym c.too_wide.ensures ∙ c.if-too_wide.false)) ∙ ap (λ s. and_then s (λ b. refused_if (reaches c.args.n c.args.word.now) 7 (gives (record { family = c.args.family; alphabet = c.args.n; bits = b })))) (sym c.checked_bits.ensures ∙ ap answer_says c.in_ok-bits.was) ∙ simp (sym c.reaches.ensures ∙ c.if-reaches.false))
