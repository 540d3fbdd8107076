-- `capi::images::gudrenoss_pieces_verdict` meets its contract: by the case of the verdict. Assumes nothing.
use mathlib.Core.Path.{refl, sym, ◌∙◌}
use Rattle.capi.proofs.images.gudrenoss_pieces_verdict.Goals as goal

pub returns-in-Open : goal.returns-in-Open
returns-in-Open c = simp (sym c.verdict.ensures ∙ c.in-Open.is, c.answer.ensures) record { back = refl; still = refl; tables = refl }

pub returns-in-Good : goal.returns-in-Good
returns-in-Good c = simp (sym c.verdict.ensures ∙ c.in-Good.is, c.answer-in-Good.ensures) record { back = refl; still = refl; tables = refl }

pub returns-in-Bad : goal.returns-in-Bad
returns-in-Bad c = simp (sym c.verdict.ensures ∙ c.in-Bad.is, c.refused.ensures) record { back = refl; still = refl; tables = refl }
