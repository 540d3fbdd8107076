-- `image_row::row_body` meets its contract. Assumes nothing.
use mathlib.Core.Path.{sym, ap, ◌∙◌}
use Prim.Native.Nat.{◌+◌}
use native.Mathlib.Omega.{arith}
use Rattle.answers.specs.Says.{gives}
use Rattle.image_row.proofs.Judging.{body-short, body-offset, body-cut, body-words, body-none, body-long, body-good}
use Rattle.image_row.proofs.row_body.Goals as goal

pub returns-then-size-at : goal.returns-then-size-at
returns-then-size-at c = c.bad.ensures ∙ body-short _ _ _ _ _ _ c.if-size-at.true

pub four-requires : goal.four-requires
four-requires c = omega (arith, c.requires.0.to (c.args.at + 8) (omega arith) (omega arith))

pub returns-then-four-place : goal.returns-then-four-place
returns-then-four-place c = c.bad-then-four-place.ensures ∙ body-offset _ _ _ _ _ _ c.if-size-at.false (λ e. c.if-four-place.true (c.four.ensures.0 ∙ e))

pub returns-then-size-at-2 : goal.returns-then-size-at-2
returns-then-size-at-2 c = c.bad-then-size-at-2.ensures ∙ body-cut _ _ _ _ _ _ c.if-size-at.false (sym c.four.ensures.0 ∙ c.if-four-place.false) c.if-size-at-2.true

pub four-c-requires : goal.four-c-requires
four-c-requires c = omega (arith, c.requires.0.to (c.args.at + 12) (omega arith) (omega arith))

pub returns-then-c-words : goal.returns-then-c-words
returns-then-c-words c = c.bad-then-c-words.ensures ∙ body-words _ _ _ _ _ _ c.if-size-at-2.false (sym c.four.ensures.0 ∙ c.if-four-place.false) (λ e. c.if-c-words.true (c.four-c.ensures.0 ∙ e))

pub returns-then-c-eq0 : goal.returns-then-c-eq0
returns-then-c-eq0 c = c.bad-then-c-eq0.ensures ∙ body-none _ _ _ _ _ _ c.if-size-at-2.false (sym c.four.ensures.0 ∙ c.if-four-place.false) (sym c.four-c.ensures.0 ∙ c.if-c-words.false) (sym c.four-c.ensures.0 ∙ c.if-c-eq0.true)

pub returns-then-place-c-gt65536 : goal.returns-then-place-c-gt65536
returns-then-place-c-gt65536 c = c.bad-then-place-c-gt65536.ensures ∙ body-long _ _ _ _ _ _ c.if-size-at-2.false (sym c.four.ensures.0 ∙ c.if-four-place.false) (sym c.four-c.ensures.0 ∙ c.if-c-words.false) (λ z. c.if-c-eq0.false (c.four-c.ensures.0 ∙ z)) (omega (arith, c.four-c.ensures.0))

pub returns : goal.returns
returns c = ap gives c.four-c.ensures.0 ∙ body-good _ _ _ _ _ _ c.if-size-at-2.false (sym c.four.ensures.0 ∙ c.if-four-place.false) (sym c.four-c.ensures.0 ∙ c.if-c-words.false) (λ z. c.if-c-eq0.false (c.four-c.ensures.0 ∙ z)) (omega (arith, c.four-c.ensures.0))
