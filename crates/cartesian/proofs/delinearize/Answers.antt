-- `cartesian::delinearize` meets its contract. Assumes nothing.
use mathlib.Core.Path.{refl, sym, ap}
use borrow.Author.Tests.{lt-ltb, le-ltb, le-leb, lt-leb}
use Rattle.positional.proofs.Parts.{digits_of_long}
use Rattle.answers.specs.Says.{gives}
use Rattle.answers.proofs.Says.{passed_on}
use Rattle.cartesian.proofs.delinearize.Goals as goal

pub returns-in_err-count : goal.returns-in_err-count
returns-in_err-count c =
    let u = passed_on c.from_residual.result _ c.from_residual.ensures.1 in
    simp (sym c.shape_count.ensures, c.in_err-count.was) record { says = u; holds = refl }

pub returns-then-count-x : goal.returns-then-count-x
returns-then-count-x c = simp (sym c.shape_count.ensures, c.in_ok-count.was, le-leb _ _ c.if-count-x.true) record { says = refl; holds = refl }

pub returns-then-out-radices : goal.returns-then-out-radices
returns-then-out-radices c = simp (sym c.shape_count.ensures, c.in_ok-count.was, lt-leb _ _ c.if-count-x.false, lt-ltb _ _ c.if-out-radices.true) record { says = refl; holds = refl }

pub returns : goal.returns
returns c = simp (sym c.shape_count.ensures, c.in_ok-count.was, lt-leb _ _ c.if-count-x.false, le-ltb _ _ c.if-out-radices.false) record { says = ap gives (sym (digits_of_long _ _)); holds = c.write_digits.ensures }
