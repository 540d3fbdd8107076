-- `links::step::lowest` meets its contract: the turn of a walk over the set digits. Assumes nothing.
use mathlib.Core.Path.{ap, sym, ◌∙◌}
use Prim.Native.Nat.{ℕ, ◌+◌, ◌-◌}
use native.Mathlib.Omega.{arith}
use borrow.Author.Rules.{rules}
use lib.Bits.{bit_and}
use lib.Count.{count_trailing_zeros, trailing_le}
use Rattle.words.proofs.Digits.{rank_turn, ones_turn}
use Rattle.words.proofs.NextSet.{trailing_lt}
use Rattle.pascal.proofs.Row.{entry_is_choose}
use Rattle.links.specs.Weight.{weight}
use Rattle.links.proofs.step.lowest.Goals as goal

pub overflow_cast-result : goal.overflow_cast-result
overflow_cast-result c = omega (arith, trailing_le 64 c.args.a)

pub returns : goal.returns
returns c =
    record {
      low = trailing_lt 64 c.args.a c.requires (search rules);
      fewer = ones_turn 64 c.args.a c.requires (search rules);
      splits = rank_turn 64 c.args.a c.args.i c.requires (search rules)
          ∙ ap (λ (x : ℕ). x + weight (c.args.i + 1) (bit_and c.args.a (c.args.a - 1))) (sym (entry_is_choose (count_trailing_zeros 64 c.args.a) (c.args.i + 1)));
    }
