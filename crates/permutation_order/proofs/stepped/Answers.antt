-- `permutation_order::stepped` meets its contract: the places passed hold the step. Assumes nothing.
use mathlib.Core.Path.{◌≡◌, sym, ap, ◌∙◌}
use Prim.Native.Nat.{ℕ}
use native.Mathlib.Omega.{arith}
use lib.ListN.{get_or}
use Rattle.arrangements.specs.Step.{turn, exchange, source, step}
use Rattle.arrangements.proofs.Next.{step_at, step_long, source_below}
use Rattle.answers.proofs.Lent.{fill_more}
use Rattle.permutation.specs.Record.{empty_entries, arrangement_of}
use Rattle.permutation.proofs.Taken.{word_at}
use Rattle.permutation.proofs.Filled.{at, filled_record}
use Rattle.permutation_order.proofs.stepped.Goals as goal

from_source : (i k j a b : ℕ) → a ≡ turn k j → b ≡ exchange i k a → b ≡ source i k j
unfolding source
from_source i k j a b p q = q ∙ ap (exchange i k) p

pub loop-j-preserved : goal.loop-j-preserved
loop-j-preserved c =
    let e = from_source c.args.i c.args.k c.loop-j.j _ _ c.turned.ensures c.exchanged-from.ensures in
    let inside = source_below c.args.p.len c.args.i c.args.k c.loop-j.j c.requires.1 c.requires.2 c.loop-j-test.true in
    fill_more (at (step c.args.i c.args.k (arrangement_of c.args.p))) empty_entries c.loop-j.out c.loop-j.j _ (omega (arith, c.requires.0.short))
    (ap (λ (x : ℕ). get_or c.args.p.entries x 0) e ∙ sym (word_at c.args.p (source c.args.i c.args.k c.loop-j.j) inside)
    ∙ sym (step_at c.args.i c.args.k (arrangement_of c.args.p) c.loop-j.j (omega (arith, c.requires.0.permutation.long))))
    c.loop-j.invariant

pub returns : goal.returns
returns c =
    filled_record (step c.args.i c.args.k (arrangement_of c.args.p)) c.loop-j.out c.loop-j.j c.args.p.len c.loop-j.invariant (omega arith)
    (step_long c.args.i c.args.k (arrangement_of c.args.p) ∙ c.requires.0.permutation.long) c.requires.0.short
