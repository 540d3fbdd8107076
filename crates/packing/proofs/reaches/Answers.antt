-- `packing::reaches` meets its contract. The invariant: what is left of the word decides. Assumes nothing.
use mathlib.Core.Path.{sym, ap, ◌∙◌}
use mathlib.Core.Bool.{true}
use mathlib.Core.List.{List}
use Prim.Native.Nat.{ℕ, ◌+◌}
use borrow.Author.Tests.{le-leb, lt-leb}
use lib.ListN.{get_or, drop}
use Rattle.words.specs.Pick.{pick}
use Rattle.bits.specs.Member.{reaches}
use Rattle.packing.proofs.Checks.{reaches_turn, reaches_end}
use Rattle.packing.proofs.reaches.Goals as goal

pub returns-then-n-x : goal.returns-then-n-x
returns-then-n-x c =
    let n : ℕ = c.args.n in
    let w : List ℕ = c.args.w.now in
    let i : ℕ = c.loop-x.x-index in
    sym (c.loop-x.invariant ∙ reaches_turn n w i c.loop-x-test.true ∙ ap (λ t. pick t true (reaches n (drop (i + 1) w))) (le-leb n (get_or w i 0) c.if-n-x.true))

pub loop-x-preserved : goal.loop-x-preserved
loop-x-preserved c =
    let n : ℕ = c.args.n in
    let w : List ℕ = c.args.w.now in
    let i : ℕ = c.loop-x.x-index in
    c.loop-x.invariant ∙ reaches_turn n w i c.loop-x-test.true ∙ ap (λ t. pick t true (reaches n (drop (i + 1) w))) (lt-leb n (get_or w i 0) c.if-n-x.false)

pub returns : goal.returns
returns c = sym (c.loop-x.invariant ∙ reaches_end c.args.n c.args.w.now c.loop-x.x-index c.loop-x-test.false)
