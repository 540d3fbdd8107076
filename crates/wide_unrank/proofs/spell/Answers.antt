-- `wide_unrank::spell` meets its contract, by the laws of `packing`'s spelling, which are over any set. Assumes nothing.
use mathlib.Core.Path.{◌≡◌, sym, ap, ◌∙◌}
use Prim.Native.Nat.{ℕ, zero, suc, ◌≤◌, ◌<◌}
use native.Mathlib.Nat.{zero-lt-suc}
use native.Mathlib.Omega.{arith}
use borrow.Author.Rules.{rules}
use lib.ListN.{length, drop, drop_of_length-le, length-drop}
use Rattle.words.specs.Bits.{bits_of, set_bits}
use Rattle.words.proofs.Bits.{bits_of_set}
use Rattle.words.proofs.Digits.{set-bits-zero}
use Rattle.seam.proofs.Joined.{long_le, joined-lt}
use Rattle.packing.proofs.Symbols.{Place, next_place, get_d_any}
use Rattle.packing.proofs.Spelling.{spelling_starts, spelling_turn, spelling_ends}
use Rattle.wide_bits.specs.Whole.{whole}
use Rattle.wide_unrank.proofs.spell.Goals as goal
use Rattle.wide_unrank.proofs.spell.Goals.{After-shift}

-- a set of numbers below 128 has at most 128
few : (c : After-shift) → length (set_bits (whole c.args.set)) ≤ 128
few c =
    long_le 128 (whole c.args.set)
    (joined-lt 64 64 c.args.set.low c.args.set.high (search rules) (search rules))

-- what is left of the set
left_over : (c : After-shift) → 0 < length (set_bits (whole c.loop-i.left))
left_over c =
    omega (arith, c.loop-i-test.true, c.count_ones-i-end.ensures, ap length c.loop-i.invariant.set, length-drop c.loop-i.i (set_bits (whole c.args.set)))

none_left : (a left i : ℕ) → set_bits left ≡ drop i (set_bits a) → length (set_bits a) ≤ i → left ≡ 0
unfolding bits_of
none_left a left i p h = sym (bits_of_set left) ∙ ap bits_of (p ∙ drop_of_length-le (set_bits a) h)

positive : (a : ℕ) → 0 < length (set_bits a) → 0 < a
positive zero h = absurd (omega (arith, h, ap length set-bits-zero))
positive (suc a) h = zero-lt-suc a

-- what the loop meets
place : (c : After-shift) → Place c.args.family (whole c.args.set) (whole c.loop-i.left) c.loop-i.i c.lowest.result c.shift.result
place c =
    let left : ℕ = whole c.loop-i.left in
    next_place c.args.family (whole c.args.set) left c.loop-i.i c.lowest.result c.shift.result c.loop-i.invariant.set (positive left (left_over c))
    (c.lowest.ensures ∙ get_d_any (set_bits left) 0 128 64 (left_over c)) c.shift.ensures

pub loop-i-init : goal.loop-i-init
loop-i-init c = spelling_starts c.args.family (whole c.args.set) c.args.out.now

pub overflow_sub-out : goal.overflow_sub-out
overflow_sub-out c = (place (goal.at.overflow_sub-out c).After-shift).taken

pub offset_bounds-out-i : goal.offset_bounds-out-i
offset_bounds-out-i c = omega (arith, (place (goal.at.offset_bounds-out-i c).After-shift).within, few (goal.at.offset_bounds-out-i c).After-shift)

pub bounds-out-i : goal.bounds-out-i
bounds-out-i c = omega (arith, (place (goal.at.bounds-out-i c).After-shift).within, c.loop-i.invariant.filled.long)

pub loop-i-preserved : goal.loop-i-preserved
loop-i-preserved c =
    spelling_turn c.args.family (whole c.args.set) c.args.out.now c.loop-i.out (whole c.loop-i.left) c.loop-i.i c.lowest.result c.shift.result (whole c.without_lowest-left.result) c.loop-i.invariant (place (goal.at.loop-i-preserved c).After-shift) c.requires c.without_lowest-left.ensures

pub shape_of-out : goal.shape_of-out
shape_of-out c = c.loop-i.invariant.filled.long

pub returns : goal.returns
returns c =
    spelling_ends c.args.family (whole c.args.set) c.args.out.now c.loop-i.out (whole c.loop-i.left) c.loop-i.i c.loop-i.invariant (none_left (whole c.args.set) _ _ c.loop-i.invariant.set (omega (arith, c.loop-i-test.false, c.count_ones-i-end.ensures))) c.requires
