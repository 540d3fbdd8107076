-- Permutations as lists (01, "Permutations"; DLMF 26.13): what stands at place i is the image of i. Assumes nothing.
--   Permutation n p    p has n entries, all below n, and no two the same: a bijection of 0 .. n-1
--   is_permutation p    the same as a test, of as many entries as there are
--   identity n    0, 1 .. n-1, which sends each place to itself
--   descending n    n-1 .. 1, 0
--   compose p q    p after q, which sends i to p(q(i))
--   first_place_of v p    the first place of p where v stands
--   inverse p    sends each entry back to its place
use Rattle.std.specs.Prelude.{◌≡◌, Bool, true, false, List, [], ◌∷◌, map, ℕ, zero, suc, leb, eqb, length, get_or}
use Rattle.words.specs.Pick.{pick}
use Rattle.words.specs.Word.{Below}
use Rattle.words.specs.HowMany.{Distinct}
use Rattle.words.specs.Members.{stands_in}

pub record Permutation (n : ℕ) (p : List ℕ) : Type 0 where
  pub long : length p ≡ n
  pub below : Below n p
  pub distinct : Distinct p

-- every entry is below n, and none stands in the list again
abbrev pub all_fit : ℕ → List ℕ → Bool
all_fit n [] = true
all_fit n (x ∷ xs) = pick (leb n x) false (pick (stands_in x xs) false (all_fit n xs))

unfoldable pub is_permutation : List ℕ → Bool
is_permutation p = all_fit (length p) p

-- the n numbers from i up
abbrev pub count_up : ℕ → ℕ → List ℕ
count_up i zero = []
count_up i (suc n) = i ∷ count_up (suc i) n

abbrev pub identity : ℕ → List ℕ
identity n = count_up 0 n

abbrev pub descending : ℕ → List ℕ
descending zero = []
descending (suc n) = n ∷ descending n

abbrev pub compose : List ℕ → List ℕ → List ℕ
compose p q = map (λ i. get_or p i 0) q

abbrev pub first_place_of : ℕ → List ℕ → ℕ
first_place_of v [] = 0
first_place_of v (x ∷ xs) = pick (eqb x v) 0 (suc (first_place_of v xs))

abbrev pub inverse : List ℕ → List ℕ
inverse p = map (λ v. first_place_of v p) (identity (length p))
