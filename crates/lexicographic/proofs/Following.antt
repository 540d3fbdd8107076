-- The walk over the sets of numbers below a in colex order, with how many stand later than each in lexicographic order: from a set to the next one that number
-- moves by a few binomials. Assumes nothing.
--   reset-later    where the lowest positions take the lowest numbers
--   run_short    a run ends within the set
--   next_later    the step, with x the lowest number of a set and t those that follow it without a gap
--   single-later    the same where there is a gap right above x
--   raised_below    the number that is raised stays below a where the next set does
--   later_of_word, later_of_set    the rank of a mirrored word of either family, by its shifted word
--   later_below    it is below the count
--   first_later    of the first set all the others stand later
use mathlib.Core.Path.{◌≡◌, refl, sym, ap, subst, ◌∙◌}
use mathlib.Core.Bool.{Bool, true, false}
use mathlib.Core.List.{List, [], ◌∷◌}
use Prim.Native.Nat.{ℕ, zero, suc, ◌+◌, ◌-◌, ◌≤◌, ◌<◌}
use native.Mathlib.Omega.{arith}
use borrow.Author.Tests.{ltb-true, ltb-false}
use lib.Dec.{ltb}
use lib.ListN.{length}
use Rattle.words.specs.declared.Family.{Family}
use Rattle.words.specs.declared.Family.TheVariants.{Forbidden}
use Rattle.pascal.specs.Choose.{choose}
use Rattle.words.specs.Pick.{pick}
use Rattle.words.specs.Word.{Monotone, Below, Word, shifted, shifted_alphabet, count}
use Rattle.words.specs.Rank.{rank_of}
use Rattle.words.specs.Unrank.{unrank_of}
use Rattle.words.specs.Next.{reset, first, next, next_from}
use Rattle.pascal.proofs.Choose.{choose_none, choose-enough, pascal}
use Rattle.words.proofs.Rank.{rank_below_count}
use Rattle.words.proofs.Unrank.{unrank_is_a_word}
use Rattle.words.proofs.Ends.{first_is_unrank_zero}
use Rattle.words.proofs.Shifted.{rank-shifted, shifted_unrank}
use Rattle.lexicographic.specs.Order.{mirror}
use Rattle.lexicographic.specs.Later.{later_words, later_sets, run}
use Rattle.lexicographic.proofs.Mirror.{mirror-word, mirror-shifted}
use Rattle.lexicographic.proofs.Next.{rank_of_mirror}

same : (n m k j : ℕ) → n ≡ m → k ≡ j → choose n k ≡ choose m j
same n m k j e f = ap (λ (x : ℕ). choose x k) e ∙ ap (choose m) f

-- Pascal's recurrence below a
split : (a x k : ℕ) → x < a → choose (a - x) (suc k) ≡ choose (a - suc x) k + choose (a - suc x) (suc k)
split a x k h = ap (λ (n : ℕ). choose n (suc k)) (omega arith) ∙ pascal (a - suc x) k

-- what a number in front adds
front : (a x : ℕ) (w : List ℕ) → later_words Forbidden a (x ∷ w) ≡ choose (a - suc x) (suc (length w)) + later_words Forbidden a w
unfolding later_words
front a x w = ap (λ (n : ℕ). choose n (suc (length w)) + later_words Forbidden a w) (omega arith)

pub reset-later : (a i : ℕ) (w : List ℕ) → i ≤ a → later_words Forbidden a (reset Forbidden i w) + choose (a - i) (length w) ≡ choose a (i + length w) + later_words Forbidden a w
unfolding reset
reset-later a zero w h = omega (arith, same (a - 0) a (length w) (0 + length w) (omega arith) (omega arith))
reset-later a (suc i) w h =
    omega (
      arith,
      reset-later a i (i ∷ w) (omega arith),
      front a i w,
      split a i (length w) (omega arith),
      ap (choose a) (past i w),
    )
  where
    past : (i : ℕ) (w : List ℕ) → i + suc (length w) ≡ suc i + length w
    past i w = omega arith

pub run_short : (x : ℕ) (xs : List ℕ) → run (x ∷ xs) ≤ length xs
unfolding run
run_short x [] = omega arith
run_short x (y ∷ ys) = go (ltb (suc x) y) (run_short y ys)
  where
    go : (t : Bool) → run (y ∷ ys) ≤ length ys → pick t 0 (suc (run (y ∷ ys))) ≤ suc (length ys)
    go true h = omega arith
    go false h = omega arith

-- d numbers follow x, which stands at position i, without a gap, and j stand above those; v is the next set
abbrev Moves : (a i x d j : ℕ) → List ℕ → List ℕ → Type 0
Moves a i x d j xs v =
    later_words Forbidden a v + choose (a - x) (suc (length xs)) + choose (a - (d + i)) (suc j)
    ≡ later_words Forbidden a (x ∷ xs) + choose (a - suc (d + x)) j + choose a (i + suc (length xs)) + choose (a - suc (suc (d + x))) (suc j)

stops : (a i x : ℕ) (xs : List ℕ) (j : ℕ) → x < a → i ≤ x → length xs ≡ j → Moves a i x 0 j xs (reset Forbidden i (suc x ∷ xs))
stops a i x xs j h l e =
    omega (
      arith,
      reset-later a i (suc x ∷ xs) (omega arith),
      front a x xs,
      front a (suc x) xs,
      split a x (length xs) h,
      same (a - suc x) (a - suc (0 + x)) (length xs) j (omega arith) e,
      same (a - suc (suc x)) (a - suc (suc (0 + x))) (suc (length xs)) (suc j) (omega arith) (ap suc e),
      same (a - i) (a - (0 + i)) (suc (length xs)) (suc j) (omega arith) (ap suc e),
    )

goes_on : (a i x d j : ℕ) (ys v : List ℕ) → x < a → Moves a (suc i) (suc x) d j ys v → Moves a i x (suc d) j (suc x ∷ ys) v
goes_on a i x d j ys v h m =
    omega (
      arith,
      m,
      front a x (suc x ∷ ys),
      split a x (suc (length ys)) h,
      ap (λ (n : ℕ). choose (a - n) (suc j)) (over i),
      ap (λ (n : ℕ). choose (a - suc n) j) (over x),
      ap (λ (n : ℕ). choose (a - suc (suc n)) (suc j)) (over x),
      ap (choose a) (past i),
    )
  where
    over : (m : ℕ) → d + suc m ≡ suc d + m
    over m = omega arith

    past : (m : ℕ) → suc m + suc (length ys) ≡ m + suc (suc (length ys))
    past m = omega arith

moves : (a i x : ℕ) (xs : List ℕ) (j : ℕ) → Monotone Forbidden (x ∷ xs) → Below a (x ∷ xs) → i ≤ x → length xs ≡ run (x ∷ xs) + j
    → Moves a i x (run (x ∷ xs)) j xs (next_from Forbidden i (x ∷ xs))
unfolding run next_from
moves a i x [] j m b l e = stops a i x [] j b.0 l (omega (arith, e))
moves a i x (y ∷ ys) j m b l e = go (ltb (suc x) y) refl e (moves a (suc i) y ys j m.1 b.1)
  where
    go : (t : Bool) → ltb (suc x) y ≡ t → suc (length ys) ≡ pick t 0 (suc (run (y ∷ ys))) + j
        → (suc i ≤ y → length ys ≡ run (y ∷ ys) + j → Moves a (suc i) y (run (y ∷ ys)) j ys (next_from Forbidden (suc i) (y ∷ ys)))
        → Moves a i x (pick t 0 (suc (run (y ∷ ys)))) j (y ∷ ys) (pick t (reset Forbidden i (suc x ∷ y ∷ ys)) (next_from Forbidden (suc i) (y ∷ ys)))
    go true p f ih = stops a i x (y ∷ ys) j b.0 l (omega (arith, f))
    go false p f ih =
        let q : y ≡ suc x = omega (arith, ltb-false (suc x) y p, m.0) in
        subst (λ (z : ℕ). Moves a i x (suc (run (y ∷ ys))) j (z ∷ ys) (next_from Forbidden (suc i) (y ∷ ys))) (sym q)
        (goes_on a i x (run (y ∷ ys)) j ys (next_from Forbidden (suc i) (y ∷ ys)) b.0
        (subst (λ (z : ℕ). Moves a (suc i) z (run (y ∷ ys)) j ys (next_from Forbidden (suc i) (y ∷ ys))) q (ih (omega arith) (omega arith))))

pub next_later : (a k x : ℕ) (xs : List ℕ) (t m : ℕ) → Word Forbidden a k (x ∷ xs) → t ≡ run (x ∷ xs) → m ≡ x + t
    → later_words Forbidden a (next Forbidden (x ∷ xs)) + choose (a - x) k + choose (a - t) (k - t)
    ≡ later_words Forbidden a (x ∷ xs) + choose (a - 1 - m) (k - 1 - t) + choose a k + choose (a - 2 - m) (k - t)
next_later a k x xs t m w e f =
    let s : run (x ∷ xs) ≤ length xs = run_short x xs in
    let j : ℕ = length xs - run (x ∷ xs) in
    omega (
      arith,
      moves a 0 x xs j w.monotone w.below (omega arith) (omega arith),
      ap (choose (a - x)) w.long,
      same a a (0 + suc (length xs)) k refl (omega (arith, w.long)),
      same (a - (run (x ∷ xs) + 0)) (a - t) (suc j) (k - t) (omega arith) (omega (arith, w.long)),
      same (a - suc (run (x ∷ xs) + x)) (a - 1 - m) j (k - 1 - t) (omega arith) (omega (arith, w.long)),
      same (a - suc (suc (run (x ∷ xs) + x))) (a - 2 - m) (suc j) (k - t) (omega arith) (omega (arith, w.long)),
    )

pub single-later : (a k x : ℕ) (xs : List ℕ) → Word Forbidden a k (x ∷ xs) → run (x ∷ xs) ≡ 0 → suc x < a
    → later_words Forbidden a (next Forbidden (x ∷ xs)) + choose (a - 2 - x) (k - 1) ≡ later_words Forbidden a (x ∷ xs)
single-later a k x xs w e h =
    let j : ℕ = length xs in
    omega (
      arith,
      moves a 0 x xs j w.monotone w.below (omega arith) (omega arith),
      same (a - (run (x ∷ xs) + 0)) a (suc j) (0 + suc j) (omega arith) (omega arith),
      same (a - suc (run (x ∷ xs) + x)) (a - suc x) j j (omega arith) refl,
      same (a - suc (suc (run (x ∷ xs) + x))) (a - suc (suc x)) (suc j) (suc j) (omega arith) refl,
      split a x j (omega arith),
      split a (suc x) j h,
      same (a - suc (suc x)) (a - 2 - x) j (k - 1) (omega arith) (omega (arith, w.long)),
    )

-- ---- the raised number stays below a where the next set does

reset_below : (a i : ℕ) (w : List ℕ) → Below a (reset Forbidden i w) → Below a w
unfolding reset
reset_below a zero w b = b
reset_below a (suc i) w b = (reset_below a i (i ∷ w) b).1

pub raised_below : (a i x : ℕ) (xs : List ℕ) → Monotone Forbidden (x ∷ xs) → Below a (next_from Forbidden i (x ∷ xs)) → suc (x + run (x ∷ xs)) < a
unfolding run next_from
raised_below a i x [] m b = omega (arith, (reset_below a i (suc x ∷ []) b).0)
raised_below a i x (y ∷ ys) m b = go (ltb (suc x) y) refl b (raised_below a (suc i) y ys m.1)
  where
    go : (t : Bool) → ltb (suc x) y ≡ t → Below a (pick t (reset Forbidden i (suc x ∷ y ∷ ys)) (next_from Forbidden (suc i) (y ∷ ys)))
        → (Below a (next_from Forbidden (suc i) (y ∷ ys)) → suc (y + run (y ∷ ys)) < a) → suc (x + pick t 0 (suc (run (y ∷ ys)))) < a
    go true p d ih = omega (arith, (reset_below a i (suc x ∷ y ∷ ys) d).0)
    go false p d ih = omega (arith, ih d, ltb-false (suc x) y p, m.0)

-- ---- of a word of either family

pub later_of_word : (F : Family) (n k : ℕ) (w : List ℕ) → Word F n k w → rank_of F (mirror n w) ≡ later_words Forbidden (shifted_alphabet F n k) (shifted F w)
later_of_word F n k w h =
    rank-shifted F (mirror n w) ∙ ap (rank_of Forbidden) (mirror-shifted F n k w h) ∙ rank_of_mirror Forbidden (shifted_alphabet F n k) (shifted F w)

pub later_of_set : (F : Family) (n k r : ℕ) → r < count F n k → rank_of F (mirror n (unrank_of F k r)) ≡ later_sets (shifted_alphabet F n k) k r
later_of_set F n k r h =
    later_of_word F n k (unrank_of F k r) (unrank_is_a_word F n k r h) ∙ ap (later_words Forbidden (shifted_alphabet F n k)) (shifted_unrank F n k r h)

pub later_below : (a k : ℕ) (w : List ℕ) → Word Forbidden a k w → later_words Forbidden a w < choose a k
later_below a k w h =
    omega (arith, rank_of_mirror Forbidden a w, rank_below_count Forbidden a k (mirror a w) (mirror-word Forbidden a k w h))

pub first_later : (a k : ℕ) → 0 < choose a k → suc (later_sets a k 0) ≡ choose a k
unfolding later_words
first_later a k h =
    omega (
      arith,
      ap (later_words Forbidden a) (first_is_unrank_zero Forbidden k),
      reset-later a k [] (choose-enough a k h),
      choose_none (a - k),
      ap (choose a) (none k),
    )
  where
    none : (k : ℕ) → k + 0 ≡ k
    none k = omega arith
