-- `mass::of_sample` meets its contract, by the verdict on the image and by its tables. Assumes nothing.
use mathlib.Core.Path.{◌≡◌, sym, ap, ◌∙◌}
use borrow.Author.Rules.{rules}
use Rattle.std.specs.Prelude.{Ok, Err}
use lib.Ieee.{Float}
use Rattle.answers.specs.Says.{answer_says}
use Rattle.surface.proofs.Rows.{contents_lie}
use Rattle.mass.specs.declared.FrameRefusal.{FrameRefusal}
use Rattle.mass.specs.Mass.{framed_says}
use Rattle.mass.proofs.Cases.{sample_bad, sample_other, sample_judged, framed-on, mapped_err}
use Rattle.mass.proofs.of_sample.Goals as goal

pub returns-in_err-t : goal.returns-in_err-t
returns-in_err-t c =
    let e = mapped_err _ (λ e. record { refusal = e; frame = c.args.s.frame }) (λ e x k. search rules) c.check.result c.map_err.result c.in_err-t.field-0.0 c.map_err.ensures.cases c.in_err-t.was in
    framed-on c.from_residual.result _ c.from_residual.ensures.1
    ∙ ap (λ (y : FrameRefusal). framed_says {A = Float} (Err y)) e.2
    ∙ sample_bad c.args.image.now c.args.s _ _ (sym c.check.ensures ∙ ap answer_says e.1)

pub some_other-requires : goal.some_other-requires
some_other-requires c =
    let e : c.check.result ≡ Ok c.in_ok-t.t = search rules in
    contents_lie c.args.image.now c.in_ok-t.t (sym c.check.ensures ∙ ap answer_says e)

pub returns-then-some_other : goal.returns-then-some_other
returns-then-some_other c =
    let e : c.check.result ≡ Ok c.in_ok-t.t = search rules in
    sample_other c.args.image.now c.args.s c.in_ok-t.t (sym c.check.ensures ∙ ap answer_says e) (sym c.some_other.ensures ∙ c.if-some_other.true)

pub judged-requires : goal.judged-requires
judged-requires c =
    let e : c.check.result ≡ Ok c.in_ok-t.t = search rules in
    record { good = sym c.check.ensures ∙ ap answer_says e; own = sym c.some_other.ensures ∙ c.if-some_other.false }

pub returns : goal.returns
returns c =
    let e : c.check.result ≡ Ok c.in_ok-t.t = search rules in
    c.judged.ensures ∙ sample_judged c.args.image.now c.args.s c.in_ok-t.t (sym c.check.ensures ∙ ap answer_says e) (sym c.some_other.ensures ∙ c.if-some_other.false)
