-- The derivative of an Allowed table of whole numbers by a symbol (02, section 10), over any alphabet and degree. Assumes nothing.
--   coefficient c w    the entry of the table c at the rank of w
--   derived_at s c w    the coefficient of w with s added, times the multiplicity of s there
--   entries_of f m    the list f 0 .. f (m - 1)
--   derivative n k s c    the table of degree k over n whose entry at w is derived_at s c w; c has degree k + 1
--   sums a b    two tables added entry by entry
--   sum_to f m    the sum of f 0 .. f (m - 1)
--   by_deletions n k s c r    going over all deletions of each term: the sum, over all terms of degree k + 1 over n and all positions of s in them, of the coefficients of those that leave the word of rank r when the position is deleted
--   occurrences n w    how often the symbols below n stand in w, all together
use Rattle.std.specs.Prelude.{List, [], ◌∷◌, ◌++◌, ℕ, zero, suc, ◌+◌, eqb, get_or, ℤ, pos, ◌+ℤ◌, ◌*ℤ◌}
use Rattle.words.specs.declared.Family.TheVariants.{Allowed}
use Rattle.words.specs.Pick.{pick}
use Rattle.words.specs.Word.{count}
use Rattle.words.specs.Rank.{rank_of}
use Rattle.words.specs.Unrank.{unrank_of}
use Rattle.words.specs.Inversions.{multiplicity}
use Rattle.words.specs.Without.{without}
use Rattle.merging.specs.Sorting.{insert}

abbrev pub coefficient : List ℤ → List ℕ → ℤ
coefficient c w = get_or c (rank_of Allowed w) (pos 0)

abbrev pub derived_at : ℕ → List ℤ → List ℕ → ℤ
derived_at s c w = coefficient c (insert s w) *ℤ pos (multiplicity s (insert s w))

unfoldable pub entries_of : (ℕ → ℤ) → ℕ → List ℤ
entries_of f zero = []
entries_of f (suc m) = entries_of f m ++ f m ∷ []

abbrev pub derivative : ℕ → ℕ → ℕ → List ℤ → List ℤ
derivative n k s c = entries_of (λ r. derived_at s c (unrank_of Allowed k r)) (count Allowed n k)

-- of two tables of one length
unfoldable pub sums : List ℤ → List ℤ → List ℤ
sums [] b = []
sums (x ∷ xs) [] = []
sums (x ∷ xs) (y ∷ ys) = (x +ℤ y) ∷ sums xs ys

-- ---- the same by deletions

unfoldable pub sum_to : (ℕ → ℤ) → ℕ → ℤ
sum_to f zero = pos 0
sum_to f (suc m) = f 0 +ℤ sum_to (λ i. f (suc i)) m

-- what position p of the term u, whose coefficient is z, adds to the entry at rank r
abbrev pub from_deletion : ℕ → ℕ → ℤ → List ℕ → ℕ → ℤ
from_deletion s r z u p = pick (eqb (get_or u p 0) s) (pick (eqb (rank_of Allowed (without p u)) r) z (pos 0)) (pos 0)

abbrev pub by_deletions : ℕ → ℕ → ℕ → List ℤ → ℕ → ℤ
by_deletions n k s c r = sum_to (λ q. sum_to (from_deletion s r (get_or c q (pos 0)) (unrank_of Allowed (suc k) q)) (suc k)) (count Allowed n (suc k))

-- ---- Euler's law of multiplicities

unfoldable pub occurrences : ℕ → List ℕ → ℕ
occurrences zero w = 0
occurrences (suc n) w = multiplicity n w + occurrences n w
