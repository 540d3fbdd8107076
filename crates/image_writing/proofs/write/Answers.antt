-- `image_writing::write` meets its contract. Assumes nothing.
use mathlib.Core.Path.{sym, ap, ◌∙◌}
use mathlib.Core.List.{List}
use Prim.Native.Nat.{ℕ}
use native.Mathlib.Omega.{arith}
use lib.ListN.{length, length-append}
use lib.Seq.{paste}
use Rattle.answers.specs.Says.{Says, gives, answer_says, places_of, after}
use Rattle.answers.proofs.Says.{passed_on}
use Rattle.image_writing.proofs.Two.{write_refused, write_short, write_good, pasted_both}
use Rattle.image_writing.proofs.write.Goals as goal

pub returns-in_err-joined : goal.returns-in_err-joined
returns-in_err-joined c =
    let u = write_refused c.args.contents.now c.args.bodies.now (length c.args.out.now) _ _ (sym c.joined.ensures ∙ ap answer_says c.in_err-joined.was) in
    record { says = passed_on c.from_residual.result _ c.from_residual.ensures.1 ∙ sym (ap places_of u); holds = sym (ap (λ (s : Says (List ℕ)). after s c.args.out.now) u) }

pub returns-then-out-n : goal.returns-then-out-n
returns-then-out-n c = let u = write_short c.args.contents.now c.args.bodies.now (length c.args.out.now) _ (sym c.joined.ensures ∙ ap answer_says c.in_ok-joined.was) (omega (arith, c.if-out-n.true)) in record { says = sym (ap places_of u); holds = sym (ap (λ (s : Says (List ℕ)). after s c.args.out.now) u) }

pub returns-then-out-n-2 : goal.returns-then-out-n-2
returns-then-out-n-2 c = let u = write_short c.args.contents.now c.args.bodies.now (length c.args.out.now) _ (sym c.joined.ensures ∙ ap answer_says c.in_ok-joined.was) (omega (arith, c.if-out-n.false, c.if-out-n-2.true)) in record { says = sym (ap places_of u); holds = sym (ap (λ (s : Says (List ℕ)). after s c.args.out.now) u) }

pub returns : goal.returns
returns c = let u = write_good c.args.contents.now c.args.bodies.now (length c.args.out.now) _ (sym c.joined.ensures ∙ ap answer_says c.in_ok-joined.was) (omega (arith, c.if-out-n.false, c.if-out-n-2.false)) in record { says = ap gives (sym (length-append c.args.contents.now c.args.bodies.now)) ∙ sym (ap places_of u); holds = c.put-2.ensures ∙ ap (λ (x : List ℕ). paste x (length c.args.contents.now) c.args.bodies.now (length c.args.bodies.now)) c.put.ensures ∙ pasted_both c.args.contents.now c.args.bodies.now c.args.out.now (omega (arith, c.if-out-n.false, c.if-out-n-2.false)) ∙ sym (ap (λ (s : Says (List ℕ)). after s c.args.out.now) u) }
