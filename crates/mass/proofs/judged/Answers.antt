-- `mass::judged` meets its contract: the tests of both readings and of the mass cover the entries. Assumes nothing.
use mathlib.Core.Path.{sym, ◌∙◌, ap}
use Rattle.rounded.specs.Finite.{finite}
use Rattle.surface.specs.Surface.{surface_of}
use Rattle.surface.proofs.Finite.{a-mass}
use Rattle.mass.proofs.Cases.{judged_given}
use Rattle.mass.proofs.judged.Goals as goal

pub returns : goal.returns
returns c =
    judged_given c.args.image.now c.args.s c.evaluate-m.result c.evaluate-m.ensures
    (a-mass c.args.s.pressure c.args.s.temperature (surface_of c.args.image.now) (sym c.is_finite.ensures ∙ c.if-not-is_finite.false) (sym c.is_finite-2.ensures ∙ c.if-not-is_finite-2.false)
    (sym (c.is_finite-3.ensures ∙ ap finite c.evaluate-m.ensures) ∙ c.if-not-is_finite-3.false))
