-- `cartesian_strides::write_strides` meets its contract, by the laws of `Striding`. Assumes nothing.
use mathlib.Core.Path.{◌≡◌, sym, ap, ◌∙◌}
use Prim.Native.Nat.{ℕ, suc, ◌*◌, ◌-◌}
use native.Mathlib.Omega.{arith}
use lib.ListN.{length, get_or}
use Rattle.positional.specs.Positional.{stride}
use Rattle.positional.proofs.Strides.{stride_next}
use Rattle.cartesian_strides.proofs.Products.{stride_fits}
use Rattle.cartesian_strides.proofs.Writing.{striding_starts, striding_turn, striding_ends}
use Rattle.cartesian_strides.proofs.write_strides.Goals as goal
use Rattle.cartesian_strides.proofs.write_strides.Goals.{then-i-radices, else-i-radices}

pub loop-i-init : goal.loop-i-init
loop-i-init c = striding_starts c.args.radices.now c.args.out.now

pub overflow_mul-stride : goal.overflow_mul-stride
overflow_mul-stride c =
    let e : c.loop-i.stride * get_or c.args.radices.now c.loop-i.i 0 ≡ stride c.args.radices.now (suc c.loop-i.i) = ap (λ (s : ℕ). s * get_or c.args.radices.now c.loop-i.i 0) (c.loop-i.invariant.is (omega arith)) ∙ sym (stride_next c.args.radices.now c.loop-i.i (omega arith)) in
    omega (arith, e, stride_fits c.args.radices.now (length c.args.radices.now - 1) (suc c.loop-i.i) c.requires.0 (omega arith))

pub loop-i-preserved : goal.loop-i-preserved
loop-i-preserved c =
    striding_turn c.args.radices.now c.args.out.now c.loop-i.out c.loop-i.stride c.if-i-radices.stride c.loop-i.i c.loop-i.invariant (omega arith) c.requires.1 (λ h. elim c.if-i-radices.branch [ then-i-radices w ↦ omega arith | else-i-radices w ↦ omega arith ])

pub returns : goal.returns
returns c =
    striding_ends c.args.radices.now c.args.out.now c.loop-i.out c.loop-i.stride c.loop-i.i c.loop-i.invariant (omega arith) c.requires.1
