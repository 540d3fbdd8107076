-- `fields::asks` meets its contract: by the verb, and by where the texts of the pattern end. Assumes nothing.
use mathlib.Core.Path.{subst}
use Rattle.requests.specs.Protocol.{texts_from}
use Rattle.fields.specs.Fields.{Passes}
use Rattle.fields.proofs.Letters.{told_not, another-verb, not-asked, asked}
use Rattle.fields.proofs.asks.Goals as goal

pub returns-then-not-same : goal.returns-then-not-same
returns-then-not-same c = another-verb _ _ c.args.pattern.now c.args.line.now (texts_from c.args.line.now c.args.from) (told_not c.same.ensures.1 (c.if-not-same.true))

pub returns-in-Some : goal.returns-in-Some
returns-in-Some c = asked _ _ c.args.pattern.now c.args.line.now (texts_from c.args.line.now c.args.from) _ (c.same.ensures.0 (c.if-not-same.false)) (subst (Passes c.args.pattern.now c.args.line.now (texts_from c.args.line.now c.args.from)) c.in-Some.is c.after.ensures)

pub returns-in-None : goal.returns-in-None
returns-in-None c = not-asked _ _ c.args.pattern.now c.args.line.now (texts_from c.args.line.now c.args.from) (subst (Passes c.args.pattern.now c.args.line.now (texts_from c.args.line.now c.args.from)) c.in-None.is c.after.ensures)
