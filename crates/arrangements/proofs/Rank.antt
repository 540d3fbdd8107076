-- The rank of a permutation: it is below the factorial, and grows with the order. Assumes nothing.
--   factorial_next    (n + 1)! is n times n!, and n! more
--   rank_below_factorial    k places weigh less than k!
--   falling_rank, rising_rank    places whose entries fall weigh nothing, and places whose entries rise weigh k! - 1
--   rank_snoc    what one more entry at the end adds
--   rank-map    a map that keeps the order keeps the rank
--   same_left, same-weight-above    where two permutations agree from place k up, these places weigh the same
--   rank_rises    of two permutations of one length, the earlier has the smaller rank
use mathlib.Core.Path.{◌≡◌, refl, sym, ap, ap₂, ◌∙◌}
use mathlib.Core.List.{List, [], ◌∷◌, ◌++◌, map}
use Prim.Native.Nat.{ℕ, zero, suc, ◌+◌, ◌*◌, ◌-◌, ◌≤◌, ◌<◌, zero-le}
use native.Mathlib.Nat.{mul-le-mul_right, add-zero, add-suc, add-sub_of_le}
use native.Mathlib.Numerals.{add-one}
use native.Mathlib.Omega.{arith}
use borrow.Author.Tests.{lt-ltb, le-ltb}
use lib.Dec.{ltb}
use lib.ListN.{length, get_or, take, drop, length-take, length-drop, length-append, length-map, take-append-drop, get_or-append}
use lib.Seq.{take-append-le, ext_get_or, get_or-drop, get_or-take, take-append_seam, get_or-append_seam}
use Rattle.words.specs.Colex.{ColexLt}
use Rattle.words.specs.Factorial.{factorial}
use Rattle.words.specs.Inversions.{smaller_in}
use Rattle.words.proofs.Factorial.{factorial_none, factorial-positive}
use Rattle.words.proofs.Inversions.{smaller_append}
use Rattle.arrangements.specs.Permutation.{Permutation}
use Rattle.arrangements.specs.Rank.{digit, rank_up_to, arrangement_rank}
use Rattle.arrangements.specs.Step.{Rises}
use Rattle.arrangements.proofs.Places.{map_at, by_places}
use Rattle.arrangements.proofs.Smaller.{one_if, smaller_one_more, smaller-monotone, smaller_at_most, smaller-map, smaller-split, smaller_in_permutation}

-- ---- the factorial

pub factorial_next : (n : ℕ) → factorial (suc n) ≡ n * factorial n + factorial n
unfolding factorial
factorial_next n = omega arith

-- ---- of any list

digit_at_most : (p : List ℕ) (j : ℕ) → digit p j ≤ j
digit_at_most p j = omega (arith, smaller_at_most (get_or p j 0) (take j p), length-take j p)

pub rank_below_factorial : (p : List ℕ) (k : ℕ) → rank_up_to p k < factorial k
unfolding rank_up_to
rank_below_factorial p zero = factorial-positive 0
rank_below_factorial p (suc k) =
    omega (arith, rank_below_factorial p k, factorial_next k, mul-le-mul_right (factorial k) (digit_at_most p k))

-- the places below k weigh nothing if their entries fall, and as much as they can if they rise
pub falling_rank : (p : List ℕ) (k : ℕ) → k ≤ length p → ((i j : ℕ) → i < j → j < k → get_or p j 0 < get_or p i 0) → rank_up_to p k ≡ 0
unfolding rank_up_to
falling_rank p zero l h = refl
falling_rank p (suc k) l h = omega (arith, falling_rank p k (omega arith) (λ i j a b. h i j a (omega arith)), ap (λ (d : ℕ). d * factorial k) none)
  where
    none : digit p k ≡ 0
    none =
        smaller-split (get_or p k 0) 0 (take k p) zero-le (λ j b. omega arith)
        (λ j a b. let c : j < k = omega (arith, length-take k p) in rw (get_or-take k p j 0) (omega (arith, h j k c (omega arith))))

pub rising_rank : (p : List ℕ) (k : ℕ) → k ≤ length p → Rises p k → suc (rank_up_to p k) ≡ factorial k
unfolding rank_up_to
rising_rank p zero l h = sym factorial_none
rising_rank p (suc k) l h =
    omega (arith, rising_rank p k (omega arith) (λ i j a b. h i j a (omega arith)), factorial_next k, ap (λ (d : ℕ). d * factorial k) all)
  where
    all : digit p k ≡ k
    all =
        smaller-split (get_or p k 0) k (take k p) (omega (arith, length-take k p))
        (λ j b. rw (get_or-take k p j 0) (h j k b (omega arith)))
        (λ j a b. omega (arith, length-take k p))

-- what stands right of the places below k has no weight there
rank_of_prefix : (u v : List ℕ) (k : ℕ) → k ≤ length u → rank_up_to (u ++ v) k ≡ rank_up_to u k
unfolding rank_up_to
rank_of_prefix u v zero l = refl
rank_of_prefix u v (suc k) l =
    ap₂ (λ (r d : ℕ). r + d * factorial k) (rank_of_prefix u v k (omega arith))
    (ap₂ (λ (x : ℕ) (w : List ℕ). smaller_in x w) (get_or-append u v 0 k l) (take-append-le k u v (omega arith)))

pub rank_snoc : (u : List ℕ) (x : ℕ) → arrangement_rank (u ++ x ∷ []) ≡ arrangement_rank u + smaller_in x u * factorial (length u)
unfolding rank_up_to
rank_snoc u x =
    ap (rank_up_to (u ++ x ∷ [])) (length-append u (x ∷ []) ∙ add-one (length u))
    ∙ ap₂ (λ (r d : ℕ). r + d * factorial (length u)) (rank_of_prefix u (x ∷ []) (length u) (omega arith))
    (ap₂ (λ (y : ℕ) (w : List ℕ). smaller_in y w) (get_or-append_seam u x [] 0) (take-append_seam u (x ∷ [])))

-- a map that keeps the order keeps the rank
take-map : (f : ℕ → ℕ) (k : ℕ) (w : List ℕ) → take k (map f w) ≡ map f (take k w)
take-map f zero w = refl
take-map f (suc k) [] = refl
take-map f (suc k) (x ∷ xs) = ap (λ (l : List ℕ). f x ∷ l) (take-map f k xs)

map-rank : (f : ℕ → ℕ) → ((x y : ℕ) → ltb (f x) (f y) ≡ ltb x y) → (w : List ℕ) (k : ℕ) → k ≤ length w → rank_up_to (map f w) k ≡ rank_up_to w k
unfolding rank_up_to
map-rank f h w zero l = refl
map-rank f h w (suc k) l =
    ap₂ (λ (r d : ℕ). r + d * factorial k) (map-rank f h w k (omega arith))
    (ap₂ (λ (x : ℕ) (u : List ℕ). smaller_in x u) (map_at f w k l) (take-map f k w)
    ∙ smaller-map f (get_or w k 0) (f (get_or w k 0)) (λ y. h y (get_or w k 0)) (take k w))

pub rank-map : (f : ℕ → ℕ) → ((x y : ℕ) → ltb (f x) (f y) ≡ ltb x y) → (w : List ℕ) → arrangement_rank (map f w) ≡ arrangement_rank w
rank-map f h w = ap (rank_up_to (map f w)) (length-map w f) ∙ map-rank f h w (length w) (omega arith)

-- ---- two permutations that differ below k alone

module _ (n : ℕ) (u v : List ℕ) (p : Permutation n u) (q : Permutation n v) (k : ℕ) (same : (j : ℕ) → k ≤ j → j < n → get_or u j 0 ≡ get_or v j 0) where
  -- they have the same entries there
  pub same_left : (m x : ℕ) → k ≤ m → x ≤ n → smaller_in x (take m u) ≡ smaller_in x (take m v)
  same_left m x l b =
      omega (
        arith,
        split u,
        split v,
        ap (smaller_in x) rest,
        smaller_in_permutation n u p x b,
        smaller_in_permutation n v q x b,
      )
    where
      split : (w : List ℕ) → smaller_in x w ≡ smaller_in x (take m w) + smaller_in x (drop m w)
      split w = ap (smaller_in x) (sym (take-append-drop m w)) ∙ smaller_append x (take m w) (drop m w)

      rest : drop m u ≡ drop m v
      rest =
          ext_get_or 0 (drop m u) (drop m v) (length-drop m u ∙ ap (λ (a : ℕ). a - m) (p.long ∙ sym q.long) ∙ sym (length-drop m v))
          (λ i h. get_or-drop m u i 0 ∙ same (m + i) (omega arith) (omega (arith, length-drop m u, p.long)) ∙ sym (get_or-drop m v i 0))

  -- so the places from k up weigh the same
  pub same-weight-above : (i : ℕ) → k + i ≤ n → rank_up_to u (k + i) + rank_up_to v k ≡ rank_up_to v (k + i) + rank_up_to u k
  unfolding rank_up_to
  same-weight-above zero l = omega (arith, ap (rank_up_to u) (add-zero k), ap (rank_up_to v) (add-zero k))
  same-weight-above (suc i) l =
      omega (
        arith,
        same-weight-above i (omega arith),
        ap (rank_up_to u) (add-suc k i),
        ap (rank_up_to v) (add-suc k i),
        ap (λ (d : ℕ). d * factorial (k + i)) digits,
      )
    where
      digits : digit u (k + i) ≡ digit v (k + i)
      digits =
          same_left (k + i) (get_or u (k + i) 0) (omega arith) (omega (arith, (by_places n u p).below (k + i) (omega arith)))
          ∙ ap (λ (x : ℕ). smaller_in x (take (k + i) v)) (same (k + i) (omega arith) (omega arith))

-- ---- the order

-- an entry is not smaller than itself
pub digit_with_itself : (w : List ℕ) (k x : ℕ) → k < length w → get_or w k 0 ≡ x → smaller_in x (take (suc k) w) ≡ smaller_in x (take k w)
digit_with_itself w k x l e = omega (arith, smaller_one_more x w k l, ap one_if (le-ltb (get_or w k 0) x (omega arith)))

pub rank_rises : (n : ℕ) (u v : List ℕ) → Permutation n u → Permutation n v → ColexLt u v → arrangement_rank u < arrangement_rank v
unfolding rank_up_to
rank_rises n u v p q c =
    omega (
      arith,
      same-weight-above n u v p q (suc k) (λ j h l. c.above j h) (n - suc k) (omega arith),
      ap (rank_up_to u) (p.long ∙ sym (add-sub_of_le l)),
      ap (rank_up_to v) (q.long ∙ sym (add-sub_of_le l)),
      rank_below_factorial u k,
      mul-le-mul_right (factorial k) digits,
    )
  where
    k : ℕ
    k = c.place

    l : suc k ≤ n
    l = omega (arith, c.within, p.long)

    digits : suc (digit u k) ≤ digit v k
    digits =
        omega (
          arith,
          digit_with_itself v k (get_or v k 0) (omega (arith, q.long)) refl,
          same_left n u v p q (suc k) (λ j h l. c.above j h) (suc k) (get_or v k 0) (omega arith) (omega (arith, (by_places n v q).below k l)),
          smaller_one_more (get_or v k 0) u k c.within,
          ap one_if (lt-ltb (get_or u k 0) (get_or v k 0) c.smaller),
          smaller-monotone (get_or u k 0) (get_or v k 0) (omega (arith, c.smaller)) (take k u),
        )
