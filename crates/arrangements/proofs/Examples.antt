-- Small cases, worked by hand (01, "Numbers checked by hand", 9). Assumes nothing.
use mathlib.Core.Path.{◌≡◌, refl}
use mathlib.Core.Bool.{true, false}
use mathlib.Core.List.{[], ◌∷◌}
use Rattle.words.specs.Factorial.{factorial}
use Rattle.words.specs.Members.{stands_in}
use Rattle.words.specs.HowMany.{HowMany}
use Rattle.words.specs.Inversions.{smaller_in, inversions}
use Rattle.arrangements.specs.Permutation.{Permutation, is_permutation, compose, inverse}
use Rattle.arrangements.specs.Rank.{rank_up_to, arrangement_rank, arrangement_unrank}
use Rattle.arrangements.specs.Step.{source, step}
use Rattle.arrangements.proofs.Counted.{factorial_is_how_many}

rank-descending : arrangement_rank (2 ∷ 1 ∷ 0 ∷ []) ≡ 0
unfolding rank_up_to factorial smaller_in
rank-descending = refl

rank_between : arrangement_rank (0 ∷ 2 ∷ 1 ∷ []) ≡ 3
unfolding rank_up_to factorial smaller_in
rank_between = refl

rank-identity : arrangement_rank (0 ∷ 1 ∷ 2 ∷ []) ≡ 5
unfolding rank_up_to factorial smaller_in
rank-identity = refl

rank-empty : arrangement_rank [] ≡ 0
unfolding rank_up_to
rank-empty = refl

-- in colex order: 210 120 201 021 102 012
unrank_between : arrangement_unrank 3 3 ≡ 0 ∷ 2 ∷ 1 ∷ []
unfolding arrangement_unrank factorial
unrank_between = refl

next_between : step 1 2 (0 ∷ 2 ∷ 1 ∷ []) ≡ 1 ∷ 0 ∷ 2 ∷ []
unfolding source
next_between = refl

-- S_0 has one member
how_many_empty : HowMany (Permutation 0) 1
unfolding factorial
how_many_empty = factorial_is_how_many 0

tested : is_permutation (0 ∷ 2 ∷ 1 ∷ []) ≡ true
unfolding is_permutation stands_in
tested = refl

repeated : is_permutation (0 ∷ 2 ∷ 0 ∷ []) ≡ false
unfolding is_permutation stands_in
repeated = refl

-- 0 goes to 1, then to 2
composed : compose (0 ∷ 2 ∷ 1 ∷ []) (1 ∷ 0 ∷ 2 ∷ []) ≡ 2 ∷ 0 ∷ 1 ∷ []
composed = refl

inverted : inverse (2 ∷ 0 ∷ 1 ∷ []) ≡ 1 ∷ 2 ∷ 0 ∷ []
inverted = refl

two_inversions : inversions (2 ∷ 0 ∷ 1 ∷ []) ≡ 2
unfolding inversions smaller_in
two_inversions = refl
