-- `permutation_order::unranked` meets its contract: the digits passed have made the entries, and the others are left. Assumes nothing.
use mathlib.Core.Path.{◌≡◌, sym, ap, ◌∙◌}
use Prim.Native.Nat.{ℕ}
use native.Mathlib.Omega.{arith}
use Rattle.permutation.specs.Record.{record_of}
use Rattle.permutation_order.specs.Rules.{held}
use Rattle.permutation_order.proofs.Making.{made, make_none, rest_none, make-more, rest_more, made_holds, made-whole}
use Rattle.permutation_order.proofs.unranked.Goals as goal

pub loop-j-init : goal.loop-j-init
loop-j-init c = (make_none c.args.r, rest_none c.args.r)

pub make_room-requires : goal.make_room-requires
make_room-requires c =
    let h = made_holds c.loop-j.j c.args.r (held c.loop-j.entries c.loop-j.j) c.loop-j.invariant.0 (omega arith) in
    (h.0, made-whole c.loop-j.j c.args.r (held c.loop-j.entries c.loop-j.j) c.loop-j.invariant.0 (omega arith), omega arith)

pub loop-j-preserved : goal.loop-j-preserved
loop-j-preserved c =
    (make-more c.loop-j.j c.args.r c.loop-j.rest c.loop-j.invariant.1 (held c.loop-j.entries c.loop-j.j) _ c.loop-j.invariant.0 c.make_room.ensures, rest_more c.loop-j.j c.args.r c.loop-j.rest c.loop-j.invariant.1)

pub returns : goal.returns
unfolding made
returns c =
    let e : c.loop-j.j ≡ c.args.n = omega arith in
    ap (held c.loop-j.entries) (sym e) ∙ c.loop-j.invariant.0 ∙ ap (λ (j : ℕ). record_of (made j c.args.r)) e
