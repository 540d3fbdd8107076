-- `monotone_unrank::widest` meets its contract. Assumes nothing.
use Prim.Native.Nat.{◌-◌}
use native.Mathlib.Omega.{arith}
use Rattle.words.proofs.Word.{shift_le}
use Rattle.widths.proofs.Checking.{widest_in_none, widest_in_some}
use Rattle.monotone_unrank.proofs.widest.Goals as goal

pub returns-then-k-eq0 : goal.returns-then-k-eq0
returns-then-k-eq0 c =
    widest_in_none 64 c.args.family c.args.k c.if-k-eq0.true

pub overflow_sub-result : goal.overflow_sub-result
overflow_sub-result c =
    omega (arith, shift_le c.args.family (c.args.k - 1))

pub returns : goal.returns
returns c =
    omega (arith, widest_in_some 64 c.args.family c.args.k (omega arith))
