-- `requests::words` meets its contract: the texts that are passed are taken in, and those ahead begin at the place of the loop. Assumes nothing.
use mathlib.Core.Path.{◌≡◌, subst}
use native.Mathlib.Omega.{arith}
use Rattle.requests.specs.Protocol.{texts_from}
use Rattle.requests.specs.Parts.{TakesAll}
use Rattle.requests.proofs.Texts.{texts_at, no_texts_past, some_text}
use Rattle.requests.proofs.Passing.{passed_none, passed-one, passed-all, passed-bad, passed-full}
use Rattle.requests.proofs.words.Goals as goal

pub loop-n-init : goal.loop-n-init
loop-n-init c = passed_none _ _ _

pub returns-then-at-line : goal.returns-then-at-line
returns-then-at-line c = passed-all _ _ _ _ _ _ _ c.loop-n.invariant (no_texts_past _ _ (omega arith))

pub returns-then-not-take : goal.returns-then-not-take
returns-then-not-take c = λ xs k v s. passed-bad _ _ _ _ _ _ _ c.loop-n.invariant _ _ (texts_at _ _ _ (omega arith) c.find-end.ensures) (c.take.ensures.none (c.if-not-take.true)) xs s

pub loop-n-preserved : goal.loop-n-preserved
loop-n-preserved c = passed-one _ _ _ _ _ _ _ c.loop-n.invariant _ _ _ _ (texts_at _ _ _ (omega arith) c.find-end.ensures) (omega arith) (omega arith) (c.take.ensures.one (c.if-not-take.false))

pub returns-then-at-line-2 : goal.returns-then-at-line-2
returns-then-at-line-2 c = λ xs k v s. passed-full _ _ _ _ _ _ _ c.loop-n.invariant c.min-places.result (omega arith) (some_text _ _ (omega arith)) xs (omega arith) s

pub returns : goal.returns
returns c =
    let all : c.loop-n.n ≡ c.min-places.result = omega arith in
    subst (TakesAll (texts_from c.args.line.now c.args.from) c.args.kinds.now c.args.values.now c.loop-n.kinds c.loop-n.values) all
    (passed-all _ _ _ _ _ _ _ c.loop-n.invariant (no_texts_past _ _ (omega arith)))
