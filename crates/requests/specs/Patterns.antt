-- The pattern of the words after a verb, a letter for each part: F a family, * a list of numbers, W a longer one, any other letter a word of that kind (docs/RULES.md,
-- section 13). Assumes nothing.
--   stands_for kind letter    whether a word of this kind stands for a letter other than * and W
--   numbers_in kinds    how many numbers the words begin with: a list runs to the end of the line or to the first word that is no number
--   fits_pattern pattern kinds    whether the words are those of a pattern, with 80 numbers at most in a list, 140 in a longer one
--   fits_from pattern kinds i    the same of the words from place i on; nothing fits past the end
--   after_list kinds i most    the place after the numbers from place i on, past the end if there are more than the most
--   After kinds i letter r    r is the place after the part that a letter stands for at place i, past the end if that is not there
--   Wants verb kinds entry    the entry is the verb, a space and a pattern that the words fit
use Rattle.std.specs.Prelude.{Bool, true, false, List, [], ◌∷◌, ◌++◌, ◌≡◌, ℕ, suc, ◌+◌, ◌<◌, eqb, ltb, length, drop, get_or}
use Rattle.words.specs.Pick.{pick}

abbrev pub stands_for : ℕ → ℕ → Bool
stands_for kind letter = pick (eqb letter 70) (pick (eqb kind 102) true (eqb kind 97)) (eqb kind letter)

unfoldable pub numbers_in : List ℕ → ℕ
numbers_in [] = 0
numbers_in (k ∷ ks) = pick (eqb k 110) (suc (numbers_in ks)) 0

unfoldable pub fits_pattern : List ℕ → List ℕ → Bool
fits_pattern [] [] = true
fits_pattern [] (k ∷ ks) = false
fits_pattern (l ∷ p) [] = pick (eqb l 42) (fits_pattern p []) (pick (eqb l 87) (fits_pattern p []) false)
fits_pattern (l ∷ p) (k ∷ ks) =
    pick (eqb l 42) (pick (ltb 80 (numbers_in (k ∷ ks))) false (fits_pattern p (drop (numbers_in (k ∷ ks)) (k ∷ ks))))
    (pick (eqb l 87) (pick (ltb 140 (numbers_in (k ∷ ks))) false (fits_pattern p (drop (numbers_in (k ∷ ks)) (k ∷ ks)))) (pick (stands_for k l) (fits_pattern p ks) false))

abbrev pub fits_from : List ℕ → List ℕ → ℕ → Bool
fits_from pattern kinds i = pick (ltb (length kinds) i) false (fits_pattern pattern (drop i kinds))

abbrev pub after_list : List ℕ → ℕ → ℕ → ℕ
after_list kinds i most = pick (ltb most (numbers_in (drop i kinds))) (length kinds + 1) (i + numbers_in (drop i kinds))

abbrev pub After : List ℕ → ℕ → ℕ → ℕ → Type 0
After kinds i letter r = (pattern : List ℕ) → fits_from (letter ∷ pattern) kinds i ≡ fits_from pattern kinds r

pub record Wants (verb kinds entry : List ℕ) : Type 0 where
  pub pattern : List ℕ
  pub whole : entry ≡ verb ++ (32 ∷ pattern)
  pub one_text : (k : ℕ) → k < length verb → get_or verb k 0 ≡ 32 → ⊥
  pub fit : fits_pattern pattern kinds ≡ true
