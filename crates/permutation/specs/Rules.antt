-- What each call answers, for all inputs: the checks of document 01 in their order, and then the value (01, "Permutations" and the lines of refusals).
-- Assumes nothing.
--   too_long n    a length that passes the capacity: 1
--   is_good e n    the first n entries are a bijection of 0 .. n-1, and the others are 0
--   taken_arrangement p    the permutation that a record holds: 1 for its length, 10 if it is not good
--   image_says p i    7 if there is no such place; the image
use Rattle.std.specs.Prelude.{Bool, false, not, List, ℕ, leb, ltb, take, drop, get_or}
use Rattle.words.specs.Pick.{pick}
use Rattle.arrangements.specs.Permutation.{is_permutation}
use Rattle.answers.specs.Says.{Says, gives, refused_if, and_then}
use Rattle.permutation.specs.declared.Permutation.{Permutation}
use Rattle.permutation.specs.Record.{capacity, zeros_only, arrangement_of}

abbrev pub too_long : ℕ → Bool
too_long n = ltb capacity n

-- the one place where it is said which records are permutations
unfoldable pub is_good : List ℕ → ℕ → Bool
is_good e n = pick (is_permutation (take n e)) (zeros_only (drop n e)) false

abbrev pub not_a_permutation : Permutation → Bool
not_a_permutation p = not (is_good p.entries p.len)

unfoldable pub taken_arrangement : Permutation → Says (List ℕ)
taken_arrangement p = refused_if (too_long p.len) 1 (refused_if (not_a_permutation p) 10 (gives (arrangement_of p)))

abbrev pub image_says : Permutation → ℕ → Says ℕ
image_says p i = and_then (taken_arrangement p) (λ w. refused_if (leb p.len i) 7 (gives (get_or w i 0)))
