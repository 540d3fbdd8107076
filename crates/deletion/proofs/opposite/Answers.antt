-- `deletion::opposite` meets its contract: each refusal by its test, and the sign by the parity of the odd symbols. Assumes nothing.
use mathlib.Core.Path.{sym, ap, ◌∙◌}
use native.Mathlib.Omega.{arith}
use borrow.Author.Rules.{rules}
use borrow.Author.Tests.{lt-ltb, le-ltb}
use lib.Bits.{bit_and, and_le_l}
use lib.Count.{ones-le}
use Rattle.words.specs.declared.Family.{Family}
use Rattle.words.proofs.Bits.{set_bits_long}
use Rattle.answers.specs.Terms.{word_of}
use Rattle.deletion.specs.Rules.{complement_in}
use Rattle.deletion.proofs.Complementing.{complement_of_set, within_mask, complement_gives}
use Rattle.deletion.proofs.opposite.Goals as goal

pub returns-in-Allowed : goal.returns-in-Allowed
returns-in-Allowed c = sym (ap (λ (F : Family). complement_in F (word_of c.args.x) c.args.n) c.in-Allowed.is)

pub returns-then-n-gt64 : goal.returns-then-n-gt64
returns-then-n-gt64 c =
    sym (complement_of_set c.args.x c.args.n c.in_default.is ∙ simp (lt-ltb _ _ c.if-n-gt64.true))

pub returns-then-reaches : goal.returns-then-reaches
returns-then-reaches c =
    sym (complement_of_set c.args.x c.args.n c.in_default.is ∙ simp (le-ltb _ _ c.if-n-gt64.false, sym c.reaches.ensures ∙ c.if-reaches.true))

pub overflow_add-larger : goal.overflow_add-larger
overflow_add-larger c =
    omega (
      arith,
      c.count_ones.ensures ∙ set_bits_long (bit_and c.args.x.bits 12297829382473034410),
      ones-le 64 (bit_and c.args.x.bits 12297829382473034410) (omega (arith, and_le_l c.args.x.bits 12297829382473034410)),
      c.count_ones-2.ensures ∙ set_bits_long c.args.x.bits,
      ones-le 64 c.args.x.bits (search rules),
    )

pub overflow_sub-bits : goal.overflow_sub-bits
overflow_sub-bits c =
    (within_mask c.args.n c.args.x.bits c.low_mask.result c.if-n-gt64.false (sym c.reaches.ensures ∙ c.if-reaches.false) c.low_mask.ensures).0

pub returns : goal.returns
returns c =
    complement_gives c.args.x c.args.n
    c.in_default.is (search rules) c.if-n-gt64.false (sym c.reaches.ensures ∙ c.if-reaches.false)
    c.low_mask.ensures c.count_ones.ensures c.count_ones-2.ensures c.from_parity.ensures
