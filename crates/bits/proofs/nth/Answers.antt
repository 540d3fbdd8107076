-- `bits::nth` meets its contract. The invariant: what is left is the set without its i lowest. Assumes nothing.
use Rattle.std.proofs.Common.{ℕ, ◌-◌, List, get_or, drop, sym, refl, ap, ◌∙◌, arith, get_or-drop, drop-drop}
use Rattle.words.specs.Bits.{ones_from, set_bits}
use Rattle.bits.proofs.nth.Goals as goal

pub loop-i-init : goal.loop-i-init
loop-i-init c = refl

pub returns-then-left-eq0 : goal.returns-then-left-eq0
unfolding ones_from
returns-then-left-eq0 c =
    let a : ℕ = c.args.a in
    let p : ℕ = c.args.p in
    let i : ℕ = c.loop-i._i in
    sym (ap (λ (b : ℕ). get_or (set_bits b) (p - i) 64) c.if-left-eq0.true)
    ∙ ap (λ (w : List ℕ). get_or w (p - i) 64) c.loop-i.invariant ∙ get_or-drop i (set_bits a) (p - i) 64
    ∙ ap (λ (k : ℕ). get_or (set_bits a) k 64) (omega (arith, c.loop-i-test.true))

pub loop-i-preserved : goal.loop-i-preserved
loop-i-preserved c = c.without_lowest-left.ensures ∙ ap (drop 1) c.loop-i.invariant ∙ drop-drop 1 c.loop-i._i (set_bits c.args.a)

pub returns : goal.returns
returns c =
    let p : ℕ = c.args.p in
    let i : ℕ = c.loop-i._i in
    c.lowest.ensures ∙ ap (λ (w : List ℕ). get_or w 0 64) c.loop-i.invariant ∙ get_or-drop i (set_bits c.args.a) 0 64
    ∙ ap (λ (k : ℕ). get_or (set_bits c.args.a) k 64) (omega (arith, c.loop-i-test.false, c.loop-i.auto._i-end))
