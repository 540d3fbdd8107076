-- `unranking::word` meets its contract: the set itself where it has no more than half of the numbers below n, otherwise the others. Assumes nothing.
use mathlib.Core.Path.{ap, ◌∙◌}
use Prim.Native.Nat.{ℕ, ◌^◌}
use native.Mathlib.Omega.{arith}
use Rattle.bits.proofs.Mask.{clamped_within}
use Rattle.unranking.proofs.Others.{enough, mirrored, others_value}
use Rattle.unranking.proofs.word.Goals as goal

pub overflow_sub-others : goal.overflow_sub-others
overflow_sub-others c = enough c.args.n c.args.k c.args.r c.requires.1

pub set-requires-2 : goal.set-requires-2
set-requires-2 c =
    (omega arith, c.requires.0, mirrored c.args.n c.args.k c.args.r c.at.result c.requires.1 c.at.ensures)

pub overflow_sub-result : goal.overflow_sub-result
overflow_sub-result c =
    omega (
      arith,
      (others_value c.args.n c.args.k c.args.r c.at.result c.low_mask.result c.requires.1 c.at.ensures (c.low_mask.ensures.number ∙ ap (λ (j : ℕ). 2 ^ j) (clamped_within c.args.n c.requires.0))).0,
    )

pub returns : goal.returns
returns c =
    omega (
      arith,
      (others_value c.args.n c.args.k c.args.r c.at.result c.low_mask.result c.requires.1 c.at.ensures (c.low_mask.ensures.number ∙ ap (λ (j : ℕ). 2 ^ j) (clamped_within c.args.n c.requires.0))).1,
    )
