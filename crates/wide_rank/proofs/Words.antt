-- A given word, by its symbols. Assumes nothing.
--   symbol_in    a shifted symbol is in the shifted alphabet
use mathlib.Core.Path.{sym, subst}
use mathlib.Core.List.{List}
use Prim.Native.Nat.{ℕ, ◌+◌, ◌<◌}
use lib.ListN.{length, get_or}
use Rattle.words.specs.declared.Family.{Family}
use Rattle.words.specs.Word.{Below, shift, shifted}
use Rattle.words.proofs.Positions.{below_at}
use Rattle.words.proofs.Shifted.{shifted_at, shifted_long}

pub symbol_in : (n : ℕ) (F : Family) (w : List ℕ) (i : ℕ) → Below n (shifted F w) → i < length w → get_or w i 0 + shift F i < n
symbol_in n F w i b h =
    subst (λ (x : ℕ). x < n) (shifted_at F w i h) ((below_at n (shifted F w)).0 b i (subst (λ (j : ℕ). i < j) (sym (shifted_long F w)) h))
