-- `combination::insert` meets its contract: the digit of s is joined to those of the set, which has it not. Assumes nothing.
use mathlib.Core.Path.{◌≡◌, sym, ap, ◌∙◌}
use mathlib.Core.Bool.{false}
use native.Mathlib.Omega.{arith}
use borrow.Author.Tests.{lt-ltb, le-ltb}
use lib.Bits.{bit_or}
use Rattle.words.specs.Bits.{set_bits}
use Rattle.words.specs.Members.{stands_in}
use Rattle.words.proofs.Members.{stands_is_not_in}
use Rattle.packing.proofs.Checks.{one_shl}
use Rattle.combination.proofs.Inserting.{with_one}
use Rattle.combination.proofs.insert.Goals as goal

pub returns-then-s-gt63 : goal.returns-then-s-gt63
returns-then-s-gt63 c = simp (lt-ltb _ _ c.if-s-gt63.true)

pub returns-then-contains : goal.returns-then-contains
returns-then-contains c = simp (le-ltb _ _ c.if-s-gt63.false, sym c.contains.ensures ∙ c.if-contains.true)

pub returns : goal.returns
returns c =
    let n : stands_in c.args.s (set_bits c.args.set) ≡ false = sym c.contains.ensures ∙ c.if-contains.false in
    simp (le-ltb _ _ c.if-s-gt63.false, n, ap (bit_or c.args.set) (one_shl 64 c.args.s (omega arith)) ∙ with_one c.args.set c.args.s ((stands_is_not_in c.args.s (set_bits c.args.set)).0 n))
