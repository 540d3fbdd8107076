-- `cartesian::exceeds` meets its contract. Assumes nothing.
use mathlib.Core.Path.{sym, ap}
use Prim.Native.Nat.{ℕ, ◌*◌, ◌^◌}
use native.Mathlib.Omega.{arith}
use borrow.Author.Tests.{lt-leb}
use Rattle.cartesian.proofs.Fits.{exceeds_test}
use Rattle.cartesian.proofs.exceeds.Goals as goal

pub returns-then-a-eq0 : goal.returns-then-a-eq0
returns-then-a-eq0 c = sym (lt-leb (2 ^ 64) (c.args.a * c.args.b) (omega (arith, ap (λ (x : ℕ). x * c.args.b) c.if-a-eq0.true)))

pub returns : goal.returns
returns c = exceeds_test c.args.a c.args.b (omega arith)
