-- How many permutations there are, and how many stand earlier than one of them (Knuth 7.2.1.2). Assumes nothing.
--   factorial_is_how_many    there are n! permutations of n entries
--   rank_tells_apart    two permutations of one length and rank are the same
--   earlier_of_rank    of two permutations of one length, that of the smaller rank is earlier
--   rank_is_how_many_earlier    the rank of a permutation is how many of its length are earlier
use mathlib.Core.Path.{◌≡◌, sym, ap, subst, ◌∙◌}
use mathlib.Core.List.{List}
use Prim.Native.Nat.{ℕ, ◌<◌}
use native.Mathlib.Omega.{arith}
use Rattle.words.specs.Colex.{ColexLt}
use Rattle.words.specs.Factorial.{factorial}
use Rattle.words.specs.HowMany.{HowMany}
use Rattle.words.proofs.Colex.{Compared, less, same, more, to_colex, compare}
use Rattle.words.proofs.HowMany.{numbered_is_how_many}
use Rattle.arrangements.specs.Permutation.{Permutation}
use Rattle.arrangements.specs.Rank.{arrangement_rank, arrangement_unrank}
use Rattle.arrangements.proofs.Rank.{rank_below_factorial, rank_rises}
use Rattle.arrangements.proofs.Unrank.{unrank_is_a_permutation, rank_of_unrank, unrank_of_rank}

pub rank_is_below : (n : ℕ) (p : List ℕ) → Permutation n p → arrangement_rank p < factorial n
rank_is_below n p h = subst (λ (k : ℕ). arrangement_rank p < factorial k) h.long (rank_below_factorial p _)

pub factorial_is_how_many : (n : ℕ) → HowMany (Permutation n) (factorial n)
factorial_is_how_many n =
    numbered_is_how_many (Permutation n) (factorial n) (arrangement_unrank n) arrangement_rank (unrank_is_a_permutation n) (rank_of_unrank n) (rank_is_below n) (unrank_of_rank n)

pub rank_tells_apart : (n : ℕ) (u v : List ℕ) → Permutation n u → Permutation n v → arrangement_rank u ≡ arrangement_rank v → u ≡ v
rank_tells_apart n u v p q e = sym (unrank_of_rank n u p) ∙ ap (arrangement_unrank n) e ∙ unrank_of_rank n v q

pub earlier_of_rank : (n : ℕ) (u v : List ℕ) → Permutation n u → Permutation n v → arrangement_rank u < arrangement_rank v → ColexLt u v
earlier_of_rank n u v p q l = go (compare u v (p.long ∙ sym q.long))
  where
    go : Compared u v → ColexLt u v
    go (less b) = to_colex u v b
    go (same e) = absurd (omega (arith, ap arrangement_rank e))
    go (more b) = absurd (omega (arith, rank_rises n v u q p (to_colex v u b)))

pub rank_is_how_many_earlier : (n : ℕ) (p : List ℕ) → Permutation n p → HowMany (λ (u : List ℕ). Permutation n u × ColexLt u p) (arrangement_rank p)
rank_is_how_many_earlier n p h =
    numbered_is_how_many (λ (u : List ℕ). Permutation n u × ColexLt u p) (arrangement_rank p) (arrangement_unrank n) arrangement_rank
    (λ r l. (unrank_is_a_permutation n r (fits r l), earlier_of_rank n (arrangement_unrank n r) p (unrank_is_a_permutation n r (fits r l)) h (omega (arith, rank_of_unrank n r (fits r l)))))
    (λ r l. rank_of_unrank n r (fits r l))
    (λ u q. rank_rises n u p q.0 h q.1)
    (λ u q. unrank_of_rank n u q.0)
  where
    fits : (r : ℕ) → r < arrangement_rank p → r < factorial n
    fits r l = omega (arith, rank_is_below n p h)
