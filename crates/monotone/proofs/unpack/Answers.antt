-- `monotone::unpack` meets its contract: the record is taken. Assumes nothing.
use mathlib.Core.Path.{◌≡◌, sym, ap, ◌∙◌}
use mathlib.Core.Bool.{true, false}
use native.Mathlib.Omega.{arith}
use borrow.Author.Tests.{lt-ltb, le-ltb}
use lib.Dec.{ltb}
use lib.ListN.{length}
use Rattle.answers.specs.Says.{gives, refuses, refused_if, places_of, after}
use Rattle.answers.specs.Terms.{word_of}
use Rattle.answers.proofs.Says.{passed_on}
use Rattle.answers.proofs.Terms.{word_long}
use Rattle.taking.proofs.Accepted.{took}
use Rattle.monotone.proofs.unpack.Goals as goal

pub returns-in_err-take : goal.returns-in_err-take
returns-in_err-take c =
    let u = took c.args.x (refused_if (ltb (length c.args.out.now) (length (word_of c.args.x))) 8 (gives (word_of c.args.x))) c.take.result _ c.take.ensures c.in_err-take.was in
    record { says = passed_on c.from_residual.result _ c.from_residual.ensures.1 ∙ ap places_of u; holds = ap (λ z. after z c.args.out.now) u }

pub returns-then-out-k : goal.returns-then-out-k
returns-then-out-k c =
    let t : ltb (length c.args.out.now) (length (word_of c.args.x)) ≡ true = lt-ltb (length c.args.out.now) (length (word_of c.args.x)) (omega (arith, word_long c.args.x)) in
    let v : refuses 8 ≡ refused_if (ltb (length c.args.out.now) (length (word_of c.args.x))) 8 (gives (word_of c.args.x)) = simp t in
    let u = v ∙ took c.args.x (refused_if (ltb (length c.args.out.now) (length (word_of c.args.x))) 8 (gives (word_of c.args.x))) c.take.result _ c.take.ensures c.in_ok-take.was in
    record { says = ap places_of u; holds = ap (λ z. after z c.args.out.now) u }

pub returns : goal.returns
returns c =
    let t : ltb (length c.args.out.now) (length (word_of c.args.x)) ≡ false = le-ltb (length c.args.out.now) (length (word_of c.args.x)) (omega (arith, word_long c.args.x)) in
    let v : gives (word_of c.args.x) ≡ refused_if (ltb (length c.args.out.now) (length (word_of c.args.x))) 8 (gives (word_of c.args.x)) = simp t in
    let u = v ∙ took c.args.x (refused_if (ltb (length c.args.out.now) (length (word_of c.args.x))) 8 (gives (word_of c.args.x))) c.take.result _ c.take.ensures c.in_ok-take.was in
    record { says = ap gives (c.count_ones-k.ensures ∙ sym (word_long c.args.x)) ∙ ap places_of u; holds = c.spell.ensures ∙ ap (λ z. after z c.args.out.now) u }
