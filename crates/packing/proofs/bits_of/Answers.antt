-- `packing::bits_of` meets its contract. The invariant: the bits so far, and those of what is left of the word, make the whole. Assumes nothing.
use mathlib.Core.Path.{ap}
use Prim.Native.Nat.{ℕ, ◌<◌, ◌+◌, ◌^◌}
use native.Mathlib.Omega.{arith}
use lib.ListN.{get_or}
use Rattle.packing.proofs.Checks.{bits_turn, bits_end, symbol_fits, one_shl}
use Rattle.packing.proofs.bits_of.Goals as goal

pub loop-i-init : goal.loop-i-init
loop-i-init c = omega arith

pub overflow_add-s : goal.overflow_add-s
overflow_add-s c = omega (arith, symbol_fits c.args.f c.args.w.now c.loop-i.i 64 (omega arith) (omega arith))

pub overflow_shl-bits : goal.overflow_shl-bits
overflow_shl-bits c = omega (arith, symbol_fits c.args.f c.args.w.now c.loop-i.i 64 (omega arith) (omega arith))

pub overflow_add-bits : goal.overflow_add-bits
overflow_add-bits c =
    let s : ℕ = get_or c.args.w.now c.loop-i.i 0 + c.shift.result in
    let l : s < 64 = omega (arith, symbol_fits c.args.f c.args.w.now c.loop-i.i 64 (omega arith) (omega arith)) in
    omega (arith, one_shl 64 s l, bits_turn c.args.f c.args.w.now c.loop-i.i (omega arith), ap (λ (x : ℕ). 2 ^ (get_or c.args.w.now c.loop-i.i 0 + x)) c.shift.ensures)

pub loop-i-preserved : goal.loop-i-preserved
loop-i-preserved c =
    let s : ℕ = get_or c.args.w.now c.loop-i.i 0 + c.shift.result in
    let l : s < 64 = omega (arith, symbol_fits c.args.f c.args.w.now c.loop-i.i 64 (omega arith) (omega arith)) in
    omega (arith, one_shl 64 s l, bits_turn c.args.f c.args.w.now c.loop-i.i (omega arith), ap (λ (x : ℕ). 2 ^ (get_or c.args.w.now c.loop-i.i 0 + x)) c.shift.ensures)

pub returns : goal.returns
returns c = omega (arith, bits_end c.args.f c.args.w.now c.loop-i.i (omega arith))
