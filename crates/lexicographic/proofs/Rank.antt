-- The lexicographic rank: what it counts, and that unranking inverts it. Each law is that of the colex order, mirrored. Assumes nothing.
--   lex_rank_sum    the lexicographic rank of a word, the rank of its mirrored word and 1 make the count
--   lex_rank_below_count    the rank is below the count
--   lex_unrank_is_a_word    for a rank below the count, the word of that rank is one over n
--   lex_rank_of_unrank, lex_unrank_of_rank    rank and word lead back to each other
--   lex_rank_rises, lex_of_rank    the rank goes with the order, and the order with the rank
--   lex_rank_is_how_many_earlier    the rank of a word over n is how many words of its length over n stand earlier in lexicographic order
use mathlib.Core.Path.{◌≡◌, sym, ap, ap₂, subst, ◌∙◌}
use mathlib.Core.List.{List}
use Prim.Native.Nat.{ℕ, suc, ◌+◌, ◌-◌, ◌<◌}
use native.Mathlib.Omega.{arith}
use lib.ListN.{length}
use Rattle.words.specs.declared.Family.{Family}
use Rattle.words.specs.Word.{Word, count}
use Rattle.words.specs.Colex.{ColexLt}
use Rattle.words.specs.HowMany.{HowMany}
use Rattle.words.specs.Rank.{rank_of}
use Rattle.words.specs.Unrank.{unrank_of}
use Rattle.words.proofs.Colex.{to_colex, from_colex}
use Rattle.words.proofs.Rank.{rank_rises, before_of_rank, rank_below_count}
use Rattle.words.proofs.Unrank.{unrank_is_a_word, rank_of_unrank, unrank_of_rank}
use Rattle.words.proofs.HowMany.{numbered_is_how_many}
use Rattle.lexicographic.specs.Order.{LexLt, mirror, lex_rank, lex_unrank}
use Rattle.lexicographic.proofs.Mirror.{mirror_long, mirror-word, mirror-mirror, lex_mirrored, colex_mirrored}

pub lex_rank_sum : (F : Family) (n k : ℕ) (w : List ℕ) → Word F n k w → suc (lex_rank F n w + rank_of F (mirror n w)) ≡ count F n k
lex_rank_sum F n k w h = omega (arith, ap (count F n) h.long, rank_below_count F n k (mirror n w) (mirror-word F n k w h))

pub lex_rank_below_count : (F : Family) (n k : ℕ) (w : List ℕ) → Word F n k w → lex_rank F n w < count F n k
lex_rank_below_count F n k w h = omega (arith, lex_rank_sum F n k w h)

pub lex_unrank_is_a_word : (F : Family) (n k r : ℕ) → r < count F n k → Word F n k (lex_unrank F n k r)
lex_unrank_is_a_word F n k r h = mirror-word F n k (unrank_of F k (count F n k - suc r)) (unrank_is_a_word F n k (count F n k - suc r) (omega arith))

pub lex_rank_of_unrank : (F : Family) (n k r : ℕ) → r < count F n k → lex_rank F n (lex_unrank F n k r) ≡ r
lex_rank_of_unrank F n k r h =
    let q : ℕ = count F n k - suc r in
    let l : q < count F n k = omega arith in
    omega (
      arith,
      lex_rank_sum F n k (lex_unrank F n k r) (lex_unrank_is_a_word F n k r h),
      ap (rank_of F) (mirror-mirror n (unrank_of F k q) (unrank_is_a_word F n k q l).below),
      rank_of_unrank F n k q l,
    )

pub lex_unrank_of_rank : (F : Family) (n k : ℕ) (w : List ℕ) → Word F n k w → lex_unrank F n k (lex_rank F n w) ≡ w
lex_unrank_of_rank F n k w h =
    let m : Word F n k (mirror n w) = mirror-word F n k w h in
    let e : count F n k - suc (lex_rank F n w) ≡ rank_of F (mirror n w) = omega (arith, lex_rank_sum F n k w h) in
    ap (mirror n) (ap₂ (unrank_of F) (sym m.long) e ∙ unrank_of_rank F (mirror n w) m.monotone) ∙ mirror-mirror n w h.below

pub lex_rank_rises : (F : Family) (n k : ℕ) (u v : List ℕ) → Word F n k u → Word F n k v → LexLt u v → lex_rank F n u < lex_rank F n v
lex_rank_rises F n k u v h l c =
    omega (
      arith,
      lex_rank_sum F n k u h,
      lex_rank_sum F n k v l,
      rank_rises F (mirror n v) (mirror n u) (mirror-word F n k v l).monotone (from_colex (mirror n v) (mirror n u) (lex_mirrored n u v h.below l.below c)),
    )

pub lex_of_rank : (F : Family) (n k : ℕ) (u v : List ℕ) → Word F n k u → Word F n k v → lex_rank F n u < lex_rank F n v → LexLt u v
lex_of_rank F n k u v h l r =
    let a : Word F n k (mirror n u) = mirror-word F n k u h in
    let b : Word F n k (mirror n v) = mirror-word F n k v l in
    let c : ColexLt (mirror n v) (mirror n u) = to_colex (mirror n v) (mirror n u) (before_of_rank F (mirror n v) (mirror n u) a.monotone (b.long ∙ sym a.long) (omega (arith, lex_rank_sum F n k u h, lex_rank_sum F n k v l))) in
    subst (λ (x : List ℕ). LexLt x v) (mirror-mirror n u h.below)
    (subst (λ (y : List ℕ). LexLt (mirror n (mirror n u)) y) (mirror-mirror n v l.below) (colex_mirrored n (mirror n v) (mirror n u) b.below a.below c))

pub lex_rank_is_how_many_earlier : (F : Family) (n k : ℕ) (w : List ℕ) → Word F n k w → HowMany (λ u. Word F n k u × LexLt u w) (lex_rank F n w)
lex_rank_is_how_many_earlier F n k w h =
    numbered_is_how_many (λ u. Word F n k u × LexLt u w) (lex_rank F n w) (lex_unrank F n k) (lex_rank F n)
    (λ r l. (lex_unrank_is_a_word F n k r (less r l), lex_of_rank F n k (lex_unrank F n k r) w (lex_unrank_is_a_word F n k r (less r l)) h (omega (arith, lex_rank_of_unrank F n k r (less r l)))))
    (λ r l. lex_rank_of_unrank F n k r (less r l))
    (λ u p. lex_rank_rises F n k u w p.0 h p.1)
    (λ u p. lex_unrank_of_rank F n k u p.0)
  where
    less : (r : ℕ) → r < lex_rank F n w → r < count F n k
    less r l = omega (arith, lex_rank_below_count F n k w h)
