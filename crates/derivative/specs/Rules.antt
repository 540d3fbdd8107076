-- What a derivative answers (02, section 10), for all inputs: its checks in order, and then the table. Assumes nothing.
--   entry_at k s c r    the entry at rank r of the derivative of degree k by s of the table c
--   all_inside f m    are f 0 .. f (m - 1) in the range of i64?
--   derivative_says n k s c room    1 if k or the shifted alphabet is above 64; 7 for degree 0; 7 for s outside the alphabet; 8 for a table that has not exactly its count; 8 for a short output; 9 for an entry outside the range; the derivative
--   table_after says l    what a lent output of signed numbers holds that held l: the table in its first places and the later ones as before; after a refusal, all as before
--   table_places says    how many places a table takes
--   Deriving k s m c    what the two passes over the entries need: over some alphabet that s is in the table c has degree k + 1, and m is the count of degree k
use Rattle.std.specs.Prelude.{◌≡◌, Bool, true, false, not, List, ◌++◌, ℕ, zero, suc, ◌+◌, ◌-◌, ◌≤◌, ◌<◌, leb, ltb, eqb, length, drop, ℤ}
use Rattle.words.specs.declared.Family.TheVariants.{Allowed}
use Rattle.words.specs.Pick.{pick}
use Rattle.words.specs.Word.{shifted_alphabet, count}
use Rattle.words.specs.Unrank.{unrank_of}
use Rattle.answers.specs.Says.{Says, refuses_with, gives, refused_if, and_then}
use Rattle.derivatives.specs.Derivative.{derived_at, derivative}
use Rattle.products.specs.Range.{inside}

abbrev pub entry_at : ℕ → ℕ → List ℤ → ℕ → ℤ
entry_at k s c r = derived_at s c (unrank_of Allowed k r)

unfoldable pub all_inside : (ℕ → ℤ) → ℕ → Bool
all_inside f zero = true
all_inside f (suc m) = pick (all_inside f m) (inside (f m)) false

-- are there fewer places than the derivative has entries?
abbrev pub too_short : ℕ → ℕ → ℕ → Bool
too_short n k room = ltb room (count Allowed n (k - 1))

-- is an entry of the derivative outside the range?
abbrev pub too_big : ℕ → ℕ → ℕ → List ℤ → Bool
too_big n k s c = not (all_inside (entry_at (k - 1) s c) (count Allowed n (k - 1)))

abbrev pub derivative_says : ℕ → ℕ → ℕ → List ℤ → ℕ → Says (List ℤ)
derivative_says n k s c room =
    refused_if (ltb 64 k) 1
    (refused_if (ltb 64 (shifted_alphabet Allowed n k)) 1
    (refused_if (eqb k 0) 7
    (refused_if (leb n s) 7
    (refused_if (not (eqb (length c) (count Allowed n k))) 8
    (refused_if (too_short n k room) 8 (refused_if (too_big n k s c) 9 (gives (derivative n (k - 1) s c))))))))

abbrev pub table_after : Says (List ℤ) → List ℤ → List ℤ
table_after (refuses_with e p) l = l
table_after (gives w) l = w ++ drop (length w) l

abbrev pub table_places : Says (List ℤ) → Says ℕ
table_places s = and_then s (λ w. gives (length w))

pub record Deriving (k s m : ℕ) (c : List ℤ) : Type 0 where
  pub alphabet : ℕ
  pub width : alphabet + k ≤ 64
  pub low : s < alphabet
  pub size : m ≡ count Allowed alphabet k
  pub given : length c ≡ count Allowed alphabet (suc k)
