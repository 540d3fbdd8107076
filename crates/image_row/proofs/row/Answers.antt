-- `image_row::row` meets its contract. Assumes nothing.
use mathlib.Core.Path.{◌≡◌, ap, ◌∙◌}
use Prim.Native.Nat.{ℕ, ◌+◌}
use native.Mathlib.Omega.{arith}
use Rattle.answers.specs.Says.{gives}
use Rattle.little_endian.specs.Bytes.{number_at}
use Rattle.image_rules.specs.Image.{judged}
use Rattle.image_row.specs.Steps.{words_fields}
use mathlib.Core.Bool.{true, false}
use Rattle.image_row.specs.Steps.{marked}
use lib.ListN.{get_or}
use Rattle.image_row.proofs.Judging.{head-short, head-family, head-cut, head-degree, head-again, head-good}
use Rattle.image_row.proofs.row.Goals as goal

pub returns-then-size-at : goal.returns-then-size-at
returns-then-size-at c = c.bad.ensures ∙ head-short c.args.s.now c.args.size c.args.at c.args.place (marked c.args.used.now) (gives (number_at c.args.s.now (c.args.at + 8) 4)) c.if-size-at.true

pub bounds-s-i : goal.bounds-s-i
bounds-s-i c = omega (arith, c.requires.0.to (c.args.at + 1) (omega arith) (omega arith))

pub returns-then-f-ge2 : goal.returns-then-f-ge2
returns-then-f-ge2 c = c.bad-then-f-ge2.ensures ∙ head-family c.args.s.now c.args.size c.args.at c.args.place (marked c.args.used.now) (gives (number_at c.args.s.now (c.args.at + 8) 4)) c.if-size-at.false (omega (arith, c.wide-f.ensures.0))

pub returns-then-size-at-2 : goal.returns-then-size-at-2
returns-then-size-at-2 c = c.bad-then-size-at-2.ensures ∙ head-cut c.args.s.now c.args.size c.args.at c.args.place (marked c.args.used.now) (gives (number_at c.args.s.now (c.args.at + 8) 4)) c.if-size-at.false (omega (arith, c.wide-f.ensures.0)) c.if-size-at-2.true

pub bounds-s-i-2 : goal.bounds-s-i-2
bounds-s-i-2 c = omega (arith, c.requires.0.to (c.args.at + 2) (omega arith) (omega arith))

pub returns-then-k-gt64 : goal.returns-then-k-gt64
returns-then-k-gt64 c = c.bad-then-k-gt64.ensures ∙ head-degree c.args.s.now c.args.size c.args.at c.args.place (marked c.args.used.now) (gives (number_at c.args.s.now (c.args.at + 8) 4)) c.if-size-at-2.false (omega (arith, c.wide-f.ensures.0)) (omega (arith, c.wide-k.ensures.0))

pub returns-then-used-f : goal.returns-then-used-f
returns-then-used-f c =
    let u : marked c.args.used.now (get_or c.args.s.now c.args.at 0) (get_or c.args.s.now (c.args.at + 1) 0) ≡ true = cc (c.wide-f.ensures.0, c.wide-k.ensures.0, c.if-used-f.true) in
    c.bad-then-used-f.ensures ∙ head-again c.args.s.now c.args.size c.args.at c.args.place (marked c.args.used.now) (gives (number_at c.args.s.now (c.args.at + 8) 4)) c.if-size-at-2.false (omega (arith, c.wide-f.ensures.0)) (omega (arith, c.wide-k.ensures.0)) u

pub returns : goal.returns
returns c =
    let u : marked c.args.used.now (get_or c.args.s.now c.args.at 0) (get_or c.args.s.now (c.args.at + 1) 0) ≡ false = cc (c.wide-f.ensures.0, c.wide-k.ensures.0, c.if-used-f.false) in
    c.row_words.ensures ∙ ap (λ (f : ℕ). judged c.args.size (words_fields c.args.s.now c.args.at c.args.place f c.wide-k.result) (gives (number_at c.args.s.now (c.args.at + 8) 4))) c.wide-f.ensures.0
    ∙ ap (λ (k : ℕ). judged c.args.size (words_fields c.args.s.now c.args.at c.args.place (get_or c.args.s.now c.args.at 0) k) (gives (number_at c.args.s.now (c.args.at + 8) 4))) c.wide-k.ensures.0
    ∙ head-good c.args.s.now c.args.size c.args.at c.args.place (marked c.args.used.now) (gives (number_at c.args.s.now (c.args.at + 8) 4)) c.if-size-at-2.false (omega (arith, c.wide-f.ensures.0)) (omega (arith, c.wide-k.ensures.0)) u
