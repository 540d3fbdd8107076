-- `image_row::row_words` meets its contract. Assumes nothing.
use mathlib.Core.Path.{◌≡◌, sym, ap, ◌∙◌}
use mathlib.Core.Bool.{true, false}
use Prim.Native.Nat.{ℕ, ◌+◌}
use native.Mathlib.Omega.{arith}
use borrow.Author.Tests.{ltb-true, ltb-false}
use lib.ListN.{get_or}
use Rattle.words.specs.declared.Family.{Family}
use Rattle.words.specs.Word.{shifted_alphabet, count}
use Rattle.words.proofs.Word.{alphabet_least}
use Rattle.pascal.specs.Choose.{choose}
use Rattle.pascal.proofs.Row.{entry_is_choose}
use Rattle.answers.specs.Says.{gives}
use Rattle.little_endian.specs.Bytes.{number_at}
use Rattle.image_rules.specs.Image.{family_of_byte, judged}
use Rattle.image_row.specs.Steps.{body_fields}
use Rattle.image_row.proofs.Judging.{width_read, words-short, words-wide, words-cut, words-zero, words-good}
use Rattle.image_row.proofs.row_words.Goals as goal

pub returns-then-size-at : goal.returns-then-size-at
returns-then-size-at c = c.bad.ensures ∙ words-short c.args.s.now c.args.size c.args.at c.args.place c.args.f c.args.k (gives (number_at c.args.s.now (c.args.at + 8) 4)) c.if-size-at.true

pub bounds-s-i : goal.bounds-s-i
bounds-s-i c = omega (arith, c.requires.0.to (c.args.at + 3) (omega arith) (omega arith))

pub returns-then-too_wide : goal.returns-then-too_wide
returns-then-too_wide c = c.bad-then-too_wide.ensures ∙ words-wide c.args.s.now c.args.size c.args.at c.args.place c.args.f c.args.k (gives (number_at c.args.s.now (c.args.at + 8) 4)) c.if-size-at.false (ltb-true 64 (shifted_alphabet (family_of_byte c.args.f) (get_or c.args.s.now (c.args.at + 2) 0) c.args.k) (width_read c.family_of-family.result c.args.f c.wide-n.result (get_or c.args.s.now (c.args.at + 2) 0) c.args.k c.too_wide.result true c.family_of-family.ensures c.wide-n.ensures.0 c.too_wide.ensures c.if-too_wide.true))

pub returns-then-size-at-2 : goal.returns-then-size-at-2
returns-then-size-at-2 c = c.bad-then-size-at-2.ensures ∙ words-cut c.args.s.now c.args.size c.args.at c.args.place c.args.f c.args.k (gives (number_at c.args.s.now (c.args.at + 8) 4)) c.if-size-at.false (ltb-false 64 (shifted_alphabet (family_of_byte c.args.f) (get_or c.args.s.now (c.args.at + 2) 0) c.args.k) (width_read c.family_of-family.result c.args.f c.wide-n.result (get_or c.args.s.now (c.args.at + 2) 0) c.args.k c.too_wide.result false c.family_of-family.ensures c.wide-n.ensures.0 c.too_wide.ensures c.if-too_wide.false)) c.if-size-at-2.true

pub bounds-s-i-2 : goal.bounds-s-i-2
bounds-s-i-2 c = omega (arith, c.requires.0.to (c.args.at + 4) (omega arith) (omega arith))

pub returns-then-wide-ne0 : goal.returns-then-wide-ne0
returns-then-wide-ne0 c = c.bad-then-wide-ne0.ensures ∙ words-zero c.args.s.now c.args.size c.args.at c.args.place c.args.f c.args.k (gives (number_at c.args.s.now (c.args.at + 8) 4)) c.if-size-at-2.false (ltb-false 64 (shifted_alphabet (family_of_byte c.args.f) (get_or c.args.s.now (c.args.at + 2) 0) c.args.k) (width_read c.family_of-family.result c.args.f c.wide-n.result (get_or c.args.s.now (c.args.at + 2) 0) c.args.k c.too_wide.result false c.family_of-family.ensures c.wide-n.ensures.0 c.too_wide.ensures c.if-too_wide.false)) (λ z. c.if-wide-ne0.true (c.wide.ensures.0 ∙ z))

pub shifted_alphabet-alphabet-requires : goal.shifted_alphabet-alphabet-requires
shifted_alphabet-alphabet-requires c = (omega (arith, alphabet_least c.family_of-family.result c.wide-n.result c.args.k, ltb-false 64 (shifted_alphabet c.family_of-family.result c.wide-n.result c.args.k) (sym c.too_wide.ensures ∙ c.if-too_wide.false)), omega arith)

pub at-requires : goal.at-requires
at-requires c = omega (arith, c.shifted_alphabet-alphabet.ensures, ltb-false 64 (shifted_alphabet c.family_of-family.result c.wide-n.result c.args.k) (sym c.too_wide.ensures ∙ c.if-too_wide.false))

pub returns : goal.returns
returns c =
    let w : c.at.result ≡ count (family_of_byte c.args.f) (get_or c.args.s.now (c.args.at + 2) 0) c.args.k =
    c.at.ensures ∙ entry_is_choose c.shifted_alphabet-alphabet.result c.args.k
    ∙ ap (λ a. choose a c.args.k) (c.shifted_alphabet-alphabet.ensures ∙ ap (λ (F : Family). shifted_alphabet F c.wide-n.result c.args.k) c.family_of-family.ensures ∙ ap (λ (n : ℕ). shifted_alphabet (family_of_byte c.args.f) n c.args.k) c.wide-n.ensures.0) in
    c.row_body.ensures ∙ ap (λ (n : ℕ). judged c.args.size (body_fields c.args.s.now c.args.at c.args.place n) (gives (number_at c.args.s.now (c.args.at + 8) 4))) w
    ∙ words-good c.args.s.now c.args.size c.args.at c.args.place c.args.f c.args.k (gives (number_at c.args.s.now (c.args.at + 8) 4)) c.if-size-at-2.false (ltb-false 64 (shifted_alphabet (family_of_byte c.args.f) (get_or c.args.s.now (c.args.at + 2) 0) c.args.k) (width_read c.family_of-family.result c.args.f c.wide-n.result (get_or c.args.s.now (c.args.at + 2) 0) c.args.k c.too_wide.result false c.family_of-family.ensures c.wide-n.ensures.0 c.too_wide.ensures c.if-too_wide.false)) (sym c.wide.ensures.0 ∙ c.if-wide-ne0.false)
