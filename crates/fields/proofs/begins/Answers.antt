-- `fields::begins` meets its contract: by the verb, and by whether the texts begin with those of the pattern. Assumes nothing.
use Rattle.requests.specs.Protocol.{texts_from}
use Rattle.fields.proofs.Letters.{told_not, another-begins, begun}
use Rattle.fields.proofs.begins.Goals as goal

pub returns-then-not-same : goal.returns-then-not-same
returns-then-not-same c = another-begins _ _ c.args.pattern.now c.args.line.now (texts_from c.args.line.now c.args.from) (told_not c.same.ensures.1 (c.if-not-same.true))

pub returns : goal.returns
returns c =
    rw c.is_some.ensures
    (begun _ _ c.args.pattern.now c.args.line.now (texts_from c.args.line.now c.args.from) c.after.result (c.same.ensures.0 (c.if-not-same.false)) c.after.ensures)
