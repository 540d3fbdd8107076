-- Widening the alphabet renumbers terms in lexicographic order: demand 3 does not hold for it. Assumes nothing.
--   widened_multiset, widened-set    the smallest term of each family that is numbered anew: (1, 1) over 2 and over 3 symbols, (1, 2) over 3 and over 4
--   widening_renumbers    so no law says that the rank is the same over every alphabet that has the word
use mathlib.Core.Path.{◌≡◌, refl, sym, ◌∙◌}
use mathlib.Core.List.{List, [], ◌∷◌}
use Prim.Native.Nat.{ℕ}
use native.Mathlib.Omega.{arith}
use Rattle.words.specs.declared.Family.{Family}
use Rattle.words.specs.declared.Family.TheVariants.{Forbidden, Allowed}
use Rattle.pascal.specs.Choose.{choose}
use Rattle.words.specs.Word.{Word}
use Rattle.words.specs.Rank.{rank_from}
use Rattle.lexicographic.specs.Order.{mirror, lex_rank}

pub widened_multiset : (lex_rank Allowed 2 (1 ∷ 1 ∷ []) ≡ 2) × (lex_rank Allowed 3 (1 ∷ 1 ∷ []) ≡ 3)
unfolding choose rank_from mirror
widened_multiset = (refl, refl)

pub widened-set : (lex_rank Forbidden 3 (1 ∷ 2 ∷ []) ≡ 2) × (lex_rank Forbidden 4 (1 ∷ 2 ∷ []) ≡ 3)
unfolding choose rank_from mirror
widened-set = (refl, refl)

pub widening_renumbers : ((F : Family) (n m k : ℕ) (w : List ℕ) → Word F n k w → Word F m k w → lex_rank F n w ≡ lex_rank F m w) → ⊥
widening_renumbers same =
    omega (
      arith,
      widened_multiset.0,
      widened_multiset.1,
      same Allowed 2 3 2 (1 ∷ 1 ∷ []) (record { long = refl; monotone = (omega arith, tt); below = (omega arith, (omega arith, tt)) })
          (record { long = refl; monotone = (omega arith, tt); below = (omega arith, (omega arith, tt)) }),
    )
