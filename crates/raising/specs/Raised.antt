-- The next word by the position of the symbol that is raised. Assumes nothing.
--   raised_at F w r    the symbols before position r - 1, then the raised symbol and the lowest that can stand above it
--   next_at F w r j    its symbol at position j
--   Raise F n w r    r is the position after the highest symbol that can be raised over n; 0 if none can
--   CanWrite w r    what the writing of it needs
use Rattle.std.specs.Prelude.{◌≡◌, true, false, List, ◌++◌, ℕ, suc, ◌+◌, ◌-◌, ◌≤◌, ◌<◌, ltb, length, get_or, take}
use Rattle.words.specs.declared.Family.{Family}
use Rattle.words.specs.Pick.{pick}
use Rattle.words.specs.Word.{Below}
use Rattle.words.specs.Next.{base}
use Rattle.lexicographic.specs.Order.{climb, has_later, lex_next}

abbrev pub raised_at : Family → List ℕ → ℕ → List ℕ
raised_at F w r = take (r - 1) w ++ climb F (suc (length w - r)) (suc (get_or w (r - 1) 0))

abbrev pub next_at : Family → List ℕ → ℕ → ℕ → ℕ
next_at F w r j = pick (ltb (j + 1) r) (get_or w j 0) (get_or w (r - 1) 0 + 1 + base F (j + 1 - r))

pub record Raise (F : Family) (n : ℕ) (w : List ℕ) (r : ℕ) : Type 0 where
  pub within : r ≤ length w
  pub none : r ≡ 0 → has_later F n w ≡ false
  pub some : 0 < r → has_later F n w ≡ true
  pub is : 0 < r → lex_next F n w ≡ raised_at F w r

pub record CanWrite (w : List ℕ) (r : ℕ) : Type 0 where
  pub some : 0 < r
  pub within : r ≤ length w
  pub short : length w ≤ 64
  pub low : Below 64 w
