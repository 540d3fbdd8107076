-- Euler's law, of multiplicities. Assumes nothing.
--   occurrences_are_the_degree    in a word over n the multiplicities of all symbols add up to its degree
use mathlib.Core.Path.{◌≡◌, refl, ◌∙◌}
use mathlib.Core.List.{List, [], ◌∷◌}
use Prim.Native.Nat.{ℕ, zero, suc, ◌<◌}
use native.Mathlib.Decide.{ℕ_discrete}
use native.Mathlib.Omega.{arith}
use borrow.Author.Tests.{eq-eqb, ne_eqb}
use lib.Dec.{eqb}
use lib.ListN.{length}
use Rattle.words.specs.declared.Family.{Family}
use Rattle.words.specs.Word.{Below, Word}
use Rattle.words.specs.Inversions.{multiplicity}
use Rattle.derivatives.specs.Derivative.{occurrences}

none_in_none : (n : ℕ) → occurrences n [] ≡ 0
unfolding occurrences multiplicity
none_in_none zero = refl
none_in_none (suc n) = omega (arith, none_in_none n)

-- a first symbol from n up is not counted, and one below n is counted once
first_not : (n x : ℕ) (xs : List ℕ) → (x < n → ⊥) → occurrences n (x ∷ xs) ≡ occurrences n xs
unfolding occurrences multiplicity
first_not zero x xs h = refl
first_not (suc n) x xs h = rw (ne_eqb x n (λ e. h (omega arith))) (omega (arith, first_not n x xs (λ l. h (omega arith))))

first_once : (n x : ℕ) (xs : List ℕ) → x < n → occurrences n (x ∷ xs) ≡ suc (occurrences n xs)
unfolding occurrences multiplicity
first_once zero x xs h = absurd (omega arith)
first_once (suc n) x xs h = go (ℕ_discrete x n) (first_once n x xs)
  where
    go : Dec (x ≡ n) → (x < n → occurrences n (x ∷ xs) ≡ suc (occurrences n xs)) → occurrences (suc n) (x ∷ xs) ≡ suc (occurrences (suc n) xs)
    go (yes e) ih = rw (eq-eqb x n e) (omega (arith, first_not n x xs (λ l. omega arith)))
    go (no d) ih = rw (ne_eqb x n d) (omega (arith, ih (omega arith)))

pub below_occurs : (n : ℕ) (w : List ℕ) → Below n w → occurrences n w ≡ length w
below_occurs n [] b = none_in_none n
below_occurs n (x ∷ xs) b = omega (arith, first_once n x xs b.0, below_occurs n xs b.1)

pub occurrences_are_the_degree : (F : Family) (n k : ℕ) (w : List ℕ) → Word F n k w → occurrences n w ≡ k
occurrences_are_the_degree F n k w h = below_occurs n w h.below ∙ h.long
