-- Looking for a table of another family or alphabet, from the last row up to the first. Assumes nothing.
--   other-family, other-alphabet, own_row, no_row    one turn of the search, and its end
use mathlib.Core.Path.{◌≡◌, ap, ◌∙◌}
use mathlib.Core.Bool.{true, false}
use mathlib.Core.List.{List}
use Prim.Native.Nat.{ℕ, suc}
use borrow.Author.Tests.{eq-eqb, ne_eqb}
use Rattle.image_rules.specs.Image.{family_at, alphabet_at}
use Rattle.surface.specs.Surface.{some_other}

pub other-family : (l : List ℕ) (i j : ℕ) → i ≡ suc j → (family_at l j ≡ 1 → ⊥) → some_other l i ≡ true
unfolding some_other
other-family l i j e x = ap (some_other l) e ∙ simp (ne_eqb (family_at l j) 1 x)

pub other-alphabet : (l : List ℕ) (i j : ℕ) → i ≡ suc j → family_at l j ≡ 1 → (alphabet_at l j ≡ 2 → ⊥) → some_other l i ≡ true
unfolding some_other
other-alphabet l i j e x y = ap (some_other l) e ∙ simp (eq-eqb (family_at l j) 1 x, ne_eqb (alphabet_at l j) 2 y)

pub own_row : (l : List ℕ) (i j : ℕ) → i ≡ suc j → family_at l j ≡ 1 → alphabet_at l j ≡ 2 → some_other l i ≡ some_other l j
unfolding some_other
own_row l i j e x y = ap (some_other l) e ∙ simp (eq-eqb (family_at l j) 1 x, eq-eqb (alphabet_at l j) 2 y)

pub no_row : (l : List ℕ) (i : ℕ) → i ≡ 0 → some_other l i ≡ false
unfolding some_other
no_row l i e = ap (some_other l) e
