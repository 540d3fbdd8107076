-- The rank of a permutation in the factorial number system, and the permutation of a rank (01, "Permutations"; Knuth 7.2.1.2). Assumes nothing.
--   digit p j    d_j: how many entries left of place j are smaller than the one there
--   arrangement_rank p    the sum of d_j times j! over the places j of p
--   lastly d u    the permutation of one entry more than u whose last entry is d
--   arrangement_unrank n r    the permutation of n entries whose rank is r, by its last entry: that is r / (n-1)!, and what stands left of it has the rank r % (n-1)!
-- That the rank is how many permutations stand earlier is the law `rank_is_how_many_earlier`.
use Rattle.std.specs.Prelude.{List, [], ◌∷◌, ◌++◌, map, ℕ, zero, suc, ◌+◌, ◌*◌, ◌/◌, ◌%◌, ltb, length, get_or, take}
use Rattle.words.specs.Pick.{pick}
use Rattle.words.specs.Factorial.{factorial}
use Rattle.words.specs.Inversions.{smaller_in}

abbrev pub digit : List ℕ → ℕ → ℕ
digit p j = smaller_in (get_or p j 0) (take j p)

-- what the places below k weigh
unfoldable pub rank_up_to : List ℕ → ℕ → ℕ
rank_up_to p zero = 0
rank_up_to p (suc k) = rank_up_to p k + digit p k * factorial k

abbrev pub arrangement_rank : List ℕ → ℕ
arrangement_rank p = rank_up_to p (length p)

-- makes room for d: the numbers from d up are raised by one
abbrev pub raise : ℕ → ℕ → ℕ
raise d x = pick (ltb x d) x (suc x)

-- the last entry is d, and the others stand as those of u do
abbrev pub lastly : ℕ → List ℕ → List ℕ
lastly d u = map (raise d) u ++ d ∷ []

unfoldable pub arrangement_unrank : ℕ → ℕ → List ℕ
arrangement_unrank zero r = []
arrangement_unrank (suc n) r = lastly (r / factorial n) (arrangement_unrank n (r % factorial n))
