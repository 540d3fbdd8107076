-- `permutation_group::composed` meets its contract: the places passed hold p after q. Assumes nothing.
use mathlib.Core.Path.{◌≡◌, sym, ap, ◌∙◌}
use Prim.Native.Nat.{ℕ, ◌<◌}
use native.Mathlib.Omega.{arith}
use lib.ListN.{get_or}
use Rattle.arrangements.specs.Permutation.{compose}
use Rattle.arrangements.proofs.Group.{compose_at, compose_long}
use Rattle.answers.proofs.Lent.{fill_more}
use Rattle.permutation.specs.declared.Permutation.{Permutation}
use Rattle.permutation.specs.Record.{arrangement_of, empty_entries, GoodRecord}
use Rattle.permutation.proofs.Taken.{word_at, holds_below}
use Rattle.permutation.proofs.Filled.{at, filled_record}
use Rattle.permutation_group.proofs.composed.Goals as goal

compose-entry : (p q : Permutation) → GoodRecord p → GoodRecord q → p.len ≡ q.len → (i : ℕ) → i < p.len
    → get_or p.entries (get_or q.entries i 0) 0 ≡ get_or (compose (arrangement_of p) (arrangement_of q)) i 0
compose-entry p q f g e i l =
    sym (word_at p (get_or q.entries i 0) (omega (arith, holds_below q g i (omega arith))))
    ∙ ap (λ (j : ℕ). get_or (arrangement_of p) j 0) (sym (word_at q i (omega arith)))
    ∙ sym (compose_at (arrangement_of p) (arrangement_of q) i (omega (arith, g.permutation.long)))

pub offset_bounds-p-j : goal.offset_bounds-p-j
offset_bounds-p-j c =
    omega (arith, c.requires.left.short, c.requires.lengths, holds_below c.args.q c.requires.right c.loop-i.i (omega (arith, c.requires.lengths)))

pub bounds-p-j : goal.bounds-p-j
bounds-p-j c =
    omega (arith, c.requires.left.short, c.requires.lengths, holds_below c.args.q c.requires.right c.loop-i.i (omega (arith, c.requires.lengths)))

pub loop-i-preserved : goal.loop-i-preserved
loop-i-preserved c =
    fill_more (at (compose (arrangement_of c.args.p) (arrangement_of c.args.q))) empty_entries c.loop-i.out c.loop-i.i _ (omega (arith, c.requires.left.short))
    (compose-entry c.args.p c.args.q c.requires.left c.requires.right c.requires.lengths c.loop-i.i c.loop-i-test.true) c.loop-i.invariant

pub returns : goal.returns
returns c =
    filled_record (compose (arrangement_of c.args.p) (arrangement_of c.args.q)) c.loop-i.out c.loop-i.i c.args.p.len c.loop-i.invariant (omega arith)
    (compose_long (arrangement_of c.args.p) (arrangement_of c.args.q) ∙ c.requires.right.permutation.long ∙ sym c.requires.lengths) c.requires.left.short
