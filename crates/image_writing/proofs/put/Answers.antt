-- `image_writing::put` meets its contract. Assumes nothing.
use mathlib.Core.Path.{◌≡◌, ap, ◌∙◌}
use mathlib.Core.List.{List}
use Prim.Native.Nat.{ℕ, suc, ◌+◌}
use native.Mathlib.Omega.{arith}
use lib.ListN.{length, set, get_or}
use lib.Seq.{paste, paste-zero, paste-suc}
use Rattle.image_writing.proofs.put.Goals as goal

pub loop-i-init : goal.loop-i-init
loop-i-init c = paste-zero c.args.dst.now c.args.at c.args.src.now

pub loop-i-preserved : goal.loop-i-preserved
loop-i-preserved c =
    ap (λ (x : List ℕ). set x (c.args.at + c.loop-i.i) (get_or c.args.src.now c.loop-i.i 0)) c.loop-i.invariant
    ∙ paste-suc c.args.dst.now c.args.at c.args.src.now c.loop-i.i 0 (omega (arith, c.requires, c.loop-i-test.true)) c.loop-i-test.true
    ∙ ap (paste c.args.dst.now c.args.at c.args.src.now) (let e : suc c.loop-i.i ≡ c.loop-i.i + 1 = omega arith in e)

pub returns : goal.returns
returns c = c.loop-i.invariant ∙ ap (paste c.args.dst.now c.args.at c.args.src.now) (let e : c.loop-i.i ≡ length c.args.src.now = omega (arith, c.loop-i.auto.i-end, c.loop-i-test.false) in e)
