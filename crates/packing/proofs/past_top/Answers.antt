-- `packing::past_top` meets its contract. Assumes nothing.
use mathlib.Core.Path.{sym, ap, ◌∙◌}
use Prim.Native.Nat.{ℕ, ◌+◌, ◌-◌}
use native.Mathlib.Omega.{arith}
use lib.Dec.{ltb}
use lib.ListN.{length, get_or}
use Rattle.words.proofs.Word.{shift_le}
use Rattle.packing.proofs.Checks.{last_shifted_at, last_shifted_none, room_test}
use Rattle.packing.proofs.past_top.Goals as goal

pub returns-then-n-eq0 : goal.returns-then-n-eq0
returns-then-n-eq0 c = sym (ap (ltb 63) (last_shifted_none c.args.f c.args.w.now c.if-n-eq0.true))

pub overflow_sub-room : goal.overflow_sub-room
overflow_sub-room c = omega (arith, shift_le c.args.f (length c.args.w.now - 1))

pub returns : goal.returns
returns c =
    let n : ℕ = length c.args.w.now in
    let x : ℕ = get_or c.args.w.now (n - 1) 0 in
    room_test 63 c.shift-room.result x (omega (arith, shift_le c.args.f (n - 1)))
    ∙ sym (ap (ltb 63) (last_shifted_at c.args.f c.args.w.now (omega arith) ∙ ap (λ (s : ℕ). x + s) (sym c.shift-room.ensures)))
