-- `raising::raisable` meets its contract, by the laws of `Raising`. Assumes nothing.
use mathlib.Core.Path.{◌≡◌, ap, subst}
use Prim.Native.Nat.{ℕ, ◌+◌, ◌-◌}
use native.Mathlib.Omega.{arith}
use lib.ListN.{length}
use Rattle.words.specs.Next.{highest}
use Rattle.raising.specs.Raised.{Raise}
use Rattle.raising.proofs.Raises.{raise_starts, raise_none, raise-found, raise-more}
use Rattle.raising.proofs.raisable.Goals as goal

pub loop-i-init : goal.loop-i-init
loop-i-init c = raise_starts c.args.family c.args.n c.args.word.now

pub returns-then-word-i : goal.returns-then-word-i
returns-then-word-i c =
    let d : length c.args.word.now - 1 - (c.loop-i.i - 1) ≡ length c.args.word.now - c.loop-i.i = omega (arith, c.loop-i-test.true) in
    let e : c.loop-i.i ≡ c.loop-i.i - 1 + 1 = omega (arith, c.loop-i-test.true) in
    subst (λ (r : ℕ). Raise c.args.family c.args.n c.args.word.now r) e
    (raise-found c.args.family c.args.n c.args.word.now c.loop-i.i c.loop-i-test.true c.loop-i.auto.i c.loop-i.invariant (omega (arith, c.if-word-i.true, c.highest.ensures, ap (highest c.args.family c.args.n) d)))

pub loop-i-preserved : goal.loop-i-preserved
loop-i-preserved c =
    let d : length c.args.word.now - 1 - (c.loop-i.i - 1) ≡ length c.args.word.now - c.loop-i.i = omega (arith, c.loop-i-test.true) in
    raise-more c.args.family c.args.n c.args.word.now c.loop-i.i c.loop-i-test.true c.loop-i.auto.i c.loop-i.invariant (omega (arith, c.if-word-i.false, c.highest.ensures, ap (highest c.args.family c.args.n) d))

pub returns : goal.returns
returns c = raise_none c.args.family c.args.n c.args.word.now c.loop-i.i c.loop-i.invariant (omega (arith, c.loop-i-test.false))
