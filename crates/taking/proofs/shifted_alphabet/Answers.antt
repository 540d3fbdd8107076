-- `taking::shifted_alphabet` meets its contract. Assumes nothing.
use mathlib.Core.Path.{sym}
use Prim.Native.Nat.{◌-◌}
use native.Mathlib.Omega.{arith}
use Rattle.words.proofs.Word.{alphabet_none, alphabet_some, shift_le}
use Rattle.taking.proofs.shifted_alphabet.Goals as goal

pub returns-then-k-eq0 : goal.returns-then-k-eq0
returns-then-k-eq0 c = sym (alphabet_none c.args.family c.args.n c.args.k c.if-k-eq0.true)

pub overflow_add-result : goal.overflow_add-result
overflow_add-result c = omega (arith, shift_le c.args.family (c.args.k - 1))

pub returns : goal.returns
returns c = omega (arith, alphabet_some c.args.family c.args.n c.args.k (omega arith))
