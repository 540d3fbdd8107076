-- `permutation_group::odd_inversions` meets its contract, by the set of the entries seen. Assumes nothing.
use mathlib.Core.Path.{sym}
use Prim.Native.Nat.{ℕ, ◌<◌}
use native.Mathlib.Omega.{arith}
use lib.ListN.{length, get_or}
use Rattle.seen.proofs.Turns.{one_digit, turned_none, turned-below, turned_more, turned_all}
use Rattle.permutation.specs.Record.{capacity, arrangement_of, GoodRecord}
use Rattle.permutation.specs.declared.Permutation.{Permutation}
use Rattle.permutation.proofs.Taken.{word_at, holds_below}
use Rattle.permutation.proofs.Apart.{holds_apart}
use Rattle.permutation_group.proofs.odd_inversions.Goals as goal

-- the entry at a place is one of the list, and a number below 64
small : (p : Permutation) → GoodRecord p → (i : ℕ) → i < p.len → get_or p.entries i 0 < 64
small p h i l = omega (arith, h.short, holds_below p h i l)

there : (p : Permutation) → GoodRecord p → (i : ℕ) → i < p.len → i < length (arrangement_of p)
there p h i l = omega (arith, l, h.permutation.long)

pub loop-i-init : goal.loop-i-init
loop-i-init c = turned_none capacity (arrangement_of c.args.p)

pub overflow_shr-odd : goal.overflow_shr-odd
overflow_shr-odd c = omega (arith, small c.args.p c.requires c.loop-i.i c.loop-i-test.true)

pub overflow_shl-seen : goal.overflow_shl-seen
overflow_shl-seen c = omega (arith, small c.args.p c.requires c.loop-i.i c.loop-i-test.true)

pub overflow_add-seen : goal.overflow_add-seen
overflow_add-seen c =
    omega (arith, turned-below capacity (arrangement_of c.args.p) c.loop-i.i c.loop-i.seen (holds_apart c.args.p c.requires) (there c.args.p c.requires c.loop-i.i c.loop-i-test.true) (get_or c.args.p.entries c.loop-i.i 0) _ c.loop-i.invariant.digits (sym (word_at c.args.p c.loop-i.i c.loop-i-test.true)) (one_digit 64 (get_or c.args.p.entries c.loop-i.i 0) (small c.args.p c.requires c.loop-i.i c.loop-i-test.true)))

pub loop-i-preserved : goal.loop-i-preserved
loop-i-preserved c =
    turned_more capacity (arrangement_of c.args.p) c.loop-i.i c.loop-i.seen (holds_apart c.args.p c.requires) (there c.args.p c.requires c.loop-i.i c.loop-i-test.true) c.loop-i.odd (get_or c.args.p.entries c.loop-i.i 0) _ c.loop-i.invariant (sym (word_at c.args.p c.loop-i.i c.loop-i-test.true)) (one_digit 64 (get_or c.args.p.entries c.loop-i.i 0) (small c.args.p c.requires c.loop-i.i c.loop-i-test.true))

pub returns : goal.returns
returns c =
    turned_all capacity (arrangement_of c.args.p) c.loop-i.i c.loop-i.seen c.loop-i.odd c.loop-i.invariant (omega (arith, c.loop-i-test.false, c.requires.permutation.long))
