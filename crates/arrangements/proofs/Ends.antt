-- The first and the last permutation of n entries. Assumes nothing.
--   descending-rank    the decreasing word has rank 0
--   identity-rank    the identity has rank n! - 1
--   descending_is_first, identity_is_last    nothing is earlier than the one, nor later than the other
--   last_is_identity    only the identity has that rank
use mathlib.Core.Path.{◌≡◌, refl, ap, ◌∙◌}
use mathlib.Core.List.{List}
use Prim.Native.Nat.{ℕ, zero, suc, ◌-◌, ◌<◌}
use native.Mathlib.Nat.{not-suc-le-zero, le_of_suc-le-suc}
use native.Mathlib.Omega.{arith}
use lib.ListN.{length, get_or}
use Rattle.words.specs.Colex.{ColexLt}
use Rattle.words.specs.Factorial.{factorial}
use Rattle.arrangements.specs.Permutation.{Permutation, identity, descending}
use Rattle.arrangements.specs.Rank.{arrangement_rank}
use Rattle.arrangements.proofs.Places.{from_places}
use Rattle.arrangements.proofs.Rank.{falling_rank, rising_rank, rank_rises}
use Rattle.arrangements.proofs.Counted.{rank_is_below, rank_tells_apart}
use Rattle.arrangements.proofs.Group.{identity_long, identity_at, identity_is_a_permutation}

descending_long : (n : ℕ) → length (descending n) ≡ n
descending_long zero = refl
descending_long (suc n) = ap suc (descending_long n)

descending_at : (n i : ℕ) → i < n → get_or (descending n) i 0 ≡ n - suc i
descending_at zero i h = absurd (not-suc-le-zero h)
descending_at (suc n) zero h = omega arith
descending_at (suc n) (suc i) h = omega (arith, descending_at n i (le_of_suc-le-suc h))

pub descending_is_a_permutation : (n : ℕ) → Permutation n (descending n)
descending_is_a_permutation n =
    from_places n (descending n)
    (record {
      long = descending_long n;
      below = λ i h. omega (arith, descending_at n i h);
      apart = λ i j h k e. omega (arith, descending_at n i h, descending_at n j k);
    })

pub descending-rank : (n : ℕ) → arrangement_rank (descending n) ≡ 0
descending-rank n =
    falling_rank (descending n) (length (descending n)) (omega arith)
    (λ i j h l. omega (arith, descending_long n, descending_at n i (omega (arith, descending_long n)), descending_at n j (omega (arith, descending_long n))))

pub identity-rank : (n : ℕ) → suc (arrangement_rank (identity n)) ≡ factorial n
identity-rank n =
    rising_rank (identity n) (length (identity n)) (omega arith)
    (λ i j h l. omega (arith, identity_at n i (omega (arith, identity_long n)), identity_at n j (omega (arith, identity_long n))))
    ∙ ap factorial (identity_long n)

pub descending_is_first : (n : ℕ) (p : List ℕ) → Permutation n p → ColexLt p (descending n) → ⊥
descending_is_first n p h c = omega (arith, descending-rank n, rank_rises n p (descending n) h (descending_is_a_permutation n) c)

pub identity_is_last : (n : ℕ) (p : List ℕ) → Permutation n p → ColexLt (identity n) p → ⊥
identity_is_last n p h c = omega (arith, identity-rank n, rank_is_below n p h, rank_rises n (identity n) p (identity_is_a_permutation n) h c)

pub last_is_identity : (n : ℕ) (p : List ℕ) → Permutation n p → suc (arrangement_rank p) ≡ factorial n → p ≡ identity n
last_is_identity n p h e = rank_tells_apart n p (identity n) h (identity_is_a_permutation n) (omega (arith, identity-rank n))
