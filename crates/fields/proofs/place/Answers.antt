-- `fields::place` meets its contract. The invariant: the texts ahead are those after the first ones, as many as were passed. Assumes nothing.
use mathlib.Core.Path.{◌≡◌, ap, ◌∙◌}
use Prim.Native.Nat.{ℕ}
use native.Mathlib.Omega.{arith}
use lib.ListN.{drop}
use Rattle.requests.specs.Protocol.{texts_from}
use Rattle.fields.proofs.Places.{text-passed, none-further}
use Rattle.fields.proofs.place.Goals as goal

pub returns-then-at-line : goal.returns-then-at-line
returns-then-at-line c = none-further c.args.line.now (texts_from c.args.line.now c.args.from) c.loop.at c.loop.counter c.loop.invariant c.args.i (omega arith) (omega arith)

pub loop-preserved : goal.loop-preserved
loop-preserved c = text-passed c.args.line.now (texts_from c.args.line.now c.args.from) c.loop.at c.loop.counter c.loop.invariant _ (omega arith) c.find-at.ensures

pub returns : goal.returns
returns c = let e : c.loop.counter ≡ c.args.i = omega arith in c.loop.invariant ∙ ap (λ (n : ℕ). drop n (texts_from c.args.line.now c.args.from)) e
