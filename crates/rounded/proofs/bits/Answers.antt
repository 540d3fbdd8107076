-- `rounded::bits` meets its contract. Only NaN differs from itself. Assumes nothing.
use mathlib.Core.Bool.{Bool, true, false, not}
use mathlib.Core.Path.{◌≡◌, sym, ◌∙◌, subst}
use Prim.Native.Nat.{ℕ}
use lib.Dec.{T}
use lib.Ieee.{Float, nan, inf, fin, to_bits, is_nan, ne}
use lib.Ieee.Compare.{differs_from_itself, nan_differs}
use native.Mathlib.Omega.{arith}
use Rattle.rounded.proofs.bits.Goals as goal

no_nan : (x : Float) → ne x x ≡ false → T (not (is_nan x))
unfolding is_nan
no_nan nan h = absurd (let e : ◌≡◌ {A = Bool} true false = sym nan_differs ∙ h in let z : ◌≡◌ {A = ℕ} 0 1 = cc in omega arith)
no_nan (inf s) h = tt
no_nan (fin s m e) h = tt

pub returns-then-x : goal.returns-then-x
unfolding to_bits
returns-then-x c = rw (differs_from_itself c.args.x (subst T (sym c.if-x.true) tt))

pub float_to_bits-result : goal.float_to_bits-result
float_to_bits-result c = no_nan c.args.x c.if-x.false
