-- `fields::text_at` meets its contract: by the place where the text begins. Assumes nothing.
use native.Mathlib.Omega.{arith}
use Rattle.requests.specs.Protocol.{texts_from}
use Rattle.fields.proofs.Places.{text-is, no_text}
use Rattle.fields.proofs.text_at.Goals as goal

pub returns-then-at-line : goal.returns-then-at-line
returns-then-at-line c = no_text c.args.line.now (texts_from c.args.line.now c.args.from) _ c.args.i c.place-at.ensures (omega arith)

pub returns : goal.returns
returns c = text-is c.args.line.now (texts_from c.args.line.now c.args.from) _ c.args.i c.place-at.ensures _ (omega arith) c.find-end.ensures
