-- `permutation_order::weight` meets its contract: the sum is what the places passed weigh. Assumes nothing.
use mathlib.Core.Path.{◌≡◌, refl, sym, ap, ◌∙◌}
use Prim.Native.Nat.{ℕ, ◌+◌, ◌<◌}
use native.Mathlib.Omega.{arith}
use lib.ListN.{length, get_or}
use Rattle.words.specs.Bits.{bits_of}
use Rattle.words.specs.Factorial.{factorial}
use Rattle.arrangements.specs.Rank.{rank_up_to}
use Rattle.seen.proofs.Turns.{one_digit, turned-fits, turned-below}
use Rattle.permutation.specs.Record.{capacity, arrangement_of, GoodRecord}
use Rattle.permutation.specs.declared.Permutation.{Permutation}
use Rattle.permutation.proofs.Taken.{word_at, holds_below}
use Rattle.permutation.proofs.Apart.{holds_apart}
use Rattle.permutation_order.proofs.Weighing.{smaller_there, rank_turn, rank_fits, factorial_turn, factorial_fits}
use Rattle.permutation_order.proofs.weight.Goals as goal

-- the entry at a place is a number below 64
small : (p : Permutation) → GoodRecord p → (i : ℕ) → i < p.len → get_or p.entries i 0 < 64
small p h i l = omega (arith, h.short, holds_below p h i l)

pub loop-j-init : goal.loop-j-init
unfolding bits_of factorial rank_up_to
loop-j-init c = (refl, refl, refl)

pub overflow_mul-sum : goal.overflow_mul-sum
overflow_mul-sum c =
    let d = smaller_there capacity (arrangement_of c.args.p) c.loop-j.j c.loop-j.seen _ _ (holds_apart c.args.p c.requires.0) c.loop-j.invariant.0 (sym (word_at c.args.p c.loop-j.j c.loop-j-test.true)) c.below.ensures in
    omega (arith, rank_turn (arrangement_of c.args.p) c.loop-j.j c.loop-j.sum _ c.loop-j.factorial c.loop-j.invariant.2 d c.loop-j.invariant.1, rank_fits (arrangement_of c.args.p) (c.loop-j.j + 1) (omega (arith, c.requires.1, c.loop-j-test.true)))

pub overflow_add-sum : goal.overflow_add-sum
overflow_add-sum c =
    let d = smaller_there capacity (arrangement_of c.args.p) c.loop-j.j c.loop-j.seen _ _ (holds_apart c.args.p c.requires.0) c.loop-j.invariant.0 (sym (word_at c.args.p c.loop-j.j c.loop-j-test.true)) c.below.ensures in
    omega (arith, rank_turn (arrangement_of c.args.p) c.loop-j.j c.loop-j.sum _ c.loop-j.factorial c.loop-j.invariant.2 d c.loop-j.invariant.1, rank_fits (arrangement_of c.args.p) (c.loop-j.j + 1) (omega (arith, c.requires.1, c.loop-j-test.true)))

pub overflow_shl-seen : goal.overflow_shl-seen
overflow_shl-seen c = omega (arith, small c.args.p c.requires.0 c.loop-j.j c.loop-j-test.true)

pub overflow_add-seen : goal.overflow_add-seen
overflow_add-seen c =
    omega (arith, turned-below capacity (arrangement_of c.args.p) c.loop-j.j c.loop-j.seen (holds_apart c.args.p c.requires.0) (omega (arith, c.loop-j-test.true, c.requires.0.permutation.long)) (get_or c.args.p.entries c.loop-j.j 0) _ c.loop-j.invariant.0 (sym (word_at c.args.p c.loop-j.j c.loop-j-test.true)) (one_digit 64 (get_or c.args.p.entries c.loop-j.j 0) (small c.args.p c.requires.0 c.loop-j.j c.loop-j-test.true)))

pub overflow_mul-factorial : goal.overflow_mul-factorial
overflow_mul-factorial c =
    omega (arith, factorial_turn c.loop-j.j c.loop-j.factorial c.loop-j.invariant.1, factorial_fits (c.loop-j.j + 1) (omega (arith, c.requires.1, c.loop-j-test.true)))

pub loop-j-preserved : goal.loop-j-preserved
loop-j-preserved c =
    let d = smaller_there capacity (arrangement_of c.args.p) c.loop-j.j c.loop-j.seen _ _ (holds_apart c.args.p c.requires.0) c.loop-j.invariant.0 (sym (word_at c.args.p c.loop-j.j c.loop-j-test.true)) c.below.ensures in (
      turned-fits capacity (arrangement_of c.args.p) c.loop-j.j c.loop-j.seen (holds_apart c.args.p c.requires.0) (omega (arith, c.loop-j-test.true, c.requires.0.permutation.long)) (get_or c.args.p.entries c.loop-j.j 0) _ c.loop-j.invariant.0 (sym (word_at c.args.p c.loop-j.j c.loop-j-test.true)) (one_digit 64 (get_or c.args.p.entries c.loop-j.j 0) (small c.args.p c.requires.0 c.loop-j.j c.loop-j-test.true)),
      factorial_turn c.loop-j.j c.loop-j.factorial c.loop-j.invariant.1,
      rank_turn (arrangement_of c.args.p) c.loop-j.j c.loop-j.sum _ c.loop-j.factorial c.loop-j.invariant.2 d c.loop-j.invariant.1,
    )

pub returns : goal.returns
returns c =
    let e : c.loop-j.j ≡ length (arrangement_of c.args.p) = omega (arith, c.loop-j-test.false, c.requires.0.permutation.long) in
    c.loop-j.invariant.2 ∙ ap (rank_up_to (arrangement_of c.args.p)) e
