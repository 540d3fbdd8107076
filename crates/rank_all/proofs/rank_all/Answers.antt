-- `rank_all::rank_all` meets its contract: each return by what was found before it. Assumes nothing.
use mathlib.Core.Path.{◌≡◌, sym, ap, ◌∙◌}
use mathlib.Core.Bool.{true, false}
use mathlib.Core.List.{List}
use Prim.Native.Nat.{ℕ}
use borrow.Author.Tests.{lt-ltb, le-ltb}
use lib.Dec.{ltb}
use lib.ListN.{length}
use Rattle.answers.specs.Says.{Says, gives, refuses_at, refused_at_if, places_of, after}
use Rattle.rank_all.specs.Rules.{ranks_of}
use Rattle.rank_all.proofs.Judging.{found, judged_on, ranks_by_sets, set_ranks_long}
use Rattle.rank_all.proofs.rank_all.Goals as goal

pub returns-in_err-judge : goal.returns-in_err-judge
returns-in_err-judge c =
    let bs : List ℕ = c.args.bits.now in
    let l : List ℕ = c.args.out.now in
    let s : Says (List ℕ) = refused_at_if (ltb (length l) (length bs)) 8 (length l) (gives (ranks_of c.args.family c.args.n bs)) in
    let u = found c.args.family c.args.n bs _ _ s c.judge.ensures c.in_err-judge.was in
    record { says = judged_on c.from_residual.result _ c.from_residual.ensures.1 ∙ ap places_of u; holds = ap (λ z. after z l) u }

pub returns-then-room-bits : goal.returns-then-room-bits
returns-then-room-bits c =
    let bs : List ℕ = c.args.bits.now in
    let l : List ℕ = c.args.out.now in
    let s : Says (List ℕ) = refused_at_if (ltb (length l) (length bs)) 8 (length l) (gives (ranks_of c.args.family c.args.n bs)) in
    let t : ltb (length l) (length bs) ≡ true = lt-ltb (length l) (length bs) c.if-room-bits.true in
    let v : refuses_at 8 (length l) ≡ s = simp t in
    let u = v ∙ found c.args.family c.args.n bs _ _ s c.judge.ensures c.in_ok-judge.was in
    record { says = ap places_of u; holds = ap (λ z. after z l) u }

pub returns : goal.returns
returns c =
    let bs : List ℕ = c.args.bits.now in
    let l : List ℕ = c.args.out.now in
    let s : Says (List ℕ) = refused_at_if (ltb (length l) (length bs)) 8 (length l) (gives (ranks_of c.args.family c.args.n bs)) in
    let t : ltb (length l) (length bs) ≡ false = le-ltb (length l) (length bs) c.if-room-bits.false in
    let v : gives (ranks_of c.args.family c.args.n bs) ≡ s = simp t in
    let u = v ∙ found c.args.family c.args.n bs _ _ s c.judge.ensures c.in_ok-judge.was in
    let e = ranks_by_sets c.args.family c.args.n bs in
    record { says = ap gives (sym (ap length e ∙ set_ranks_long bs)) ∙ ap places_of u; holds = c.write.ensures ∙ ap (λ w. after (gives w) l) (sym e) ∙ ap (λ z. after z l) u }
