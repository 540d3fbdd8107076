-- `spelling::negative` meets its contract: -1 - (n - 1) is in range. Assumes nothing.
use mathlib.Core.Path.{sym, ap, subst, ◌∙◌}
use Prim.Native.Nat.{◌-◌}
use native.Mathlib.Omega.{arith}
use lib.IntN.{ℤ, negsuc, ◌-ℤ◌}
use mir.Syntax.{w64}
use mir.Val.{SFits}
use mir.ValLaws.{to_z_pos}
use Rattle.spelling.proofs.Minus.{in_range_fits, kept, below_one}
use Rattle.spelling.proofs.negative.Goals as goal

pub overflow_sub-result-2 : goal.overflow_sub-result-2
overflow_sub-result-2 c =
    let m = c.args.n - 1 in
    subst (SFits w64) (sym (ap (λ (z : ℤ). negsuc 0 -ℤ z) (to_z_pos w64 m (omega (arith, c.requires.0, c.requires.1))) ∙ below_one m))
    (in_range_fits (negsuc m) (omega (arith, c.requires.0, c.requires.1)))

pub returns : goal.returns
returns c =
    let m = c.args.n - 1 in
    kept _ (negsuc m) (ap (λ (z : ℤ). negsuc 0 -ℤ z) (to_z_pos w64 m (omega (arith, c.requires.0, c.requires.1))) ∙ below_one m) (omega (arith, c.requires.0, c.requires.1))
