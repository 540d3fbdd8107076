-- `fields::list` meets its contract: the texts that are passed are taken in, and those ahead begin at the place of the loop. Assumes nothing.
use Prim.Native.Nat.{◌+◌, ◌-◌}
use native.Mathlib.Omega.{arith}
use mathlib.Core.Path.{◌≡◌, refl, subst}
use lib.ListN.{length, take, drop}
use Rattle.requests.specs.Protocol.{texts_from}
use Rattle.requests.proofs.Texts.{texts_at, no_texts_past, some_text}
use Rattle.spelling.specs.Signed.{ReadsSigned}
use Rattle.spelling.proofs.Minus.{kept}
use Rattle.fields.specs.Fields.{SignedAre}
use Rattle.fields.proofs.Lists.{listed_none, listed_kept, listed-all, listed-bad, listed-full}
use Rattle.fields.proofs.list.Goals as goal

pub loop-n-init : goal.loop-n-init
loop-n-init c = listed_none _ _

pub returns-then-at-line : goal.returns-then-at-line
returns-then-at-line c = listed-all _ _ _ _ _ c.loop-n.invariant (no_texts_past _ _ (omega arith))

pub returns-in_err-z : goal.returns-in_err-z
returns-in_err-z c = rw c.from_residual.ensures (λ zs k a. listed-bad _ _ _ _ _ c.loop-n.invariant (take (c.find-end.result - c.loop-n.at) (drop c.loop-n.at c.args.line.now)) _ (texts_at _ _ _ (omega arith) c.find-end.ensures) (subst (ReadsSigned (take (c.find-end.result - c.loop-n.at) (drop c.loop-n.at c.args.line.now))) c.in_err-z.was c.read_signed.ensures) zs a)

pub loop-n-preserved : goal.loop-n-preserved
loop-n-preserved c = let s = subst (ReadsSigned (take (c.find-end.result - c.loop-n.at) (drop c.loop-n.at c.args.line.now))) c.in_ok-z.was c.read_signed.ensures in listed_kept (texts_from c.args.line.now c.args.from) (texts_from c.args.line.now c.loop-n.at) c.args.table.now c.loop-n.table c.loop-n.n c.loop-n.invariant (take (c.find-end.result - c.loop-n.at) (drop c.loop-n.at c.args.line.now)) (texts_from c.args.line.now (c.find-end.result + 1)) c.in_ok-z.z _ (kept c.in_ok-z.z c.in_ok-z.z refl s.1) (texts_at _ _ _ (omega arith) c.find-end.ensures) (omega arith) s

pub returns-then-at-line-2 : goal.returns-then-at-line-2
returns-then-at-line-2 c = λ zs k a. listed-full _ _ _ _ _ c.loop-n.invariant (omega arith) (some_text _ _ (omega arith)) zs k a

pub returns : goal.returns
returns c =
    let all : c.loop-n.n ≡ length c.loop-n.table = omega arith in
    subst (SignedAre (texts_from c.args.line.now c.args.from) c.args.table.now c.loop-n.table) all (listed-all _ _ _ _ _ c.loop-n.invariant (no_texts_past _ _ (omega arith)))
