-- Where a word breaks its family's rule, said in words (02, §5: "the position of the second symbol of the first offending pair"). Assumes nothing.
--   FirstBreak F w p    at p stands the first symbol that may not stand above its neighbour below
--   LongestKept F w p    the first p symbols are the longest beginning that keeps the rule
use Rattle.std.specs.Prelude.{◌≡◌, List, ℕ, suc, ◌≤◌, ◌<◌, length, get_or, take}
use Rattle.words.specs.declared.Family.{Family}
use Rattle.words.specs.Word.{Step, Monotone}

pub record FirstBreak (F : Family) (w : List ℕ) (p : ℕ) : Type 0 where
  pub above : 0 < p
  pub within : p < length w
  pub offends : (q : ℕ) → suc q ≡ p → Step F (get_or w q 0) (get_or w p 0) → ⊥
  pub first : (q : ℕ) → suc q < p → Step F (get_or w q 0) (get_or w (suc q) 0)

pub record LongestKept (F : Family) (w : List ℕ) (p : ℕ) : Type 0 where
  pub within : p ≤ length w
  pub keeps : Monotone F (take p w)
  pub longest : (q : ℕ) → q ≤ length w → Monotone F (take q w) → q ≤ p
