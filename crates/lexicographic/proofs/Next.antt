-- The next word in lexicographic order: its rank is one more, so it is later, and nothing lies between; and there is one exactly if a symbol can be raised.
-- Assumes nothing.
--   rank_of_mirror    how many words over n stand later is the rank of the mirrored word
--   climb_long, lex_next_long    the lengths
--   lex-next-is-a-word    where a symbol can be raised, the next word is a word over n
--   lex-next-rank, lex-last-rank    its rank is one more; where none can, the rank is the last one
--   lex-next-is-later, nothing-between-word-and-lex-next    so it is later, and no word over n lies between
--   nothing-after-lex-last    where no symbol can be raised, no word over n is later
use mathlib.Core.Path.{◌≡◌, refl, sym, ap, ◌∙◌}
use mathlib.Core.Bool.{Bool, true, false}
use mathlib.Core.List.{List, [], ◌∷◌}
use Prim.Native.Nat.{ℕ, zero, suc, ◌+◌, ◌-◌, ◌≤◌, ◌<◌}
use native.Mathlib.Nat.{le_refl, add-zero}
use native.Mathlib.Omega.{arith}
use borrow.Author.Tests.{ltb-true, ltb-false}
use lib.Dec.{ltb}
use lib.ListN.{length}
use Rattle.words.specs.declared.Family.{Family}
use Rattle.words.specs.declared.Family.TheVariants.{Forbidden, Allowed}
use Rattle.pascal.specs.Choose.{choose}
use Rattle.words.specs.Pick.{pick}
use Rattle.words.specs.Word.{Step, Monotone, Below, Word, shift, shifted_alphabet, count}
use Rattle.words.specs.Rank.{rank_from, rank_of}
use Rattle.words.specs.Next.{highest}
use Rattle.pascal.proofs.Choose.{choose_none, pascal, choose-few}
use Rattle.words.proofs.Positions.{rank_append}
use Rattle.lexicographic.specs.Order.{LexLt, mirror, lex_rank, least, climb, has_later, lex_next}
use Rattle.lexicographic.specs.Later.{later_words}
use Rattle.lexicographic.proofs.Mirror.{mirror_long}
use Rattle.lexicographic.proofs.Rank.{lex_rank_sum, lex_rank_below_count, lex_rank_rises, lex_of_rank}

-- ---- how many words stand later

pub rank_of_mirror : (F : Family) (n : ℕ) (w : List ℕ) → rank_of F (mirror n w) ≡ later_words F n w
unfolding rank_from mirror later_words
rank_of_mirror F n [] = refl
rank_of_mirror F n (x ∷ xs) =
    let e : 0 + length (mirror n xs) ≡ length xs = omega (arith, mirror_long n xs) in
    omega (
      arith,
      rank_append F 0 (mirror n xs) ((n - suc x) ∷ []),
      rank_of_mirror F n xs,
      ap (λ (m : ℕ). choose ((n - suc x) + shift F m) (suc m)) e,
    )

-- ---- the two families

-- k symbols from y up, one right above the other, are below n
abbrev Fits : Family → ℕ → ℕ → ℕ → Type 0
Fits Forbidden n k y = y + k ≤ n
Fits Allowed n k y = y < n

raised_fits : (F : Family) (n k x : ℕ) → x < highest F n k → Fits F n (suc k) (suc x)
raised_fits Forbidden n k x h = omega arith
raised_fits Allowed n k x h = omega arith

next_fits : (F : Family) (n k y : ℕ) → Fits F n (suc k) y → Fits F n k (least F y)
next_fits Forbidden n k y h = omega arith
next_fits Allowed n k y h = h

fits_below : (F : Family) (n k y : ℕ) → Fits F n (suc k) y → y < n
fits_below Forbidden n k y h = omega arith
fits_below Allowed n k y h = h

least_step : (F : Family) (y : ℕ) → Step F y (least F y)
least_step Forbidden y = le_refl (suc y)
least_step Allowed y = le_refl y

step_further : (F : Family) (x y : ℕ) → Step F x y → Step F x (suc y)
step_further Forbidden x y h = omega arith
step_further Allowed x y h = omega arith

-- the highest symbol leaves nothing later
highest_none : (F : Family) (n k x : ℕ) → highest F n k ≤ x → (n - suc x) + shift F k < suc k
highest_none Forbidden n k x h = omega arith
highest_none Allowed n k x h = omega arith

-- the words of k + 1 symbols from y up: those that begin with y, and those that do not
from_up : (F : Family) (n k y : ℕ) → Fits F n (suc k) y
    → count F (n - y) (suc k) ≡ count F (n - least F y) k + choose ((n - suc y) + shift F k) (suc k)
from_up Forbidden n k y h =
    let e : n - y ≡ suc (n - suc y) = omega arith in
    rw (e, add-zero) (pascal (n - suc y) k)
from_up Allowed n zero y h =
    let e : n - y + 0 ≡ suc ((n - suc y) + 0) = omega arith in
    rw e (omega (arith, pascal ((n - suc y) + 0) 0, choose_none ((n - suc y) + 0), choose_none (n - y)))
from_up Allowed n (suc k) y h =
    let e : n - y + suc k ≡ suc ((n - suc y) + suc k) = omega arith in
    let d : n - y + k ≡ (n - suc y) + suc k = omega arith in
    rw (e, d) (pascal ((n - suc y) + suc k) (suc k))

at_one : (F : Family) (m k : ℕ) → shifted_alphabet F m (suc k) ≡ m + shift F k
at_one Forbidden m k = omega arith
at_one Allowed m k = refl

-- ---- the lowest word from y up

pub climb_long : (F : Family) (k y : ℕ) → length (climb F k y) ≡ k
unfolding climb
climb_long F zero y = refl
climb_long F (suc k) y = ap suc (climb_long F k (least F y))

climb-monotone : (F : Family) (k y : ℕ) → Monotone F (climb F k y)
unfolding climb
climb-monotone F zero y = tt
climb-monotone F (suc zero) y = tt
climb-monotone F (suc (suc k)) y = (least_step F y, climb-monotone F (suc k) (least F y))

climb_below : (F : Family) (n k y : ℕ) → Fits F n k y → Below n (climb F k y)
unfolding climb
climb_below F n zero y h = tt
climb_below F n (suc k) y h = (fits_below F n k y h, climb_below F n k (least F y) (next_fits F n k y h))

-- all words from y up but itself stand later
climb-later : (F : Family) (n k y : ℕ) → Fits F n k y → suc (later_words F n (climb F k y)) ≡ count F (n - y) k
unfolding climb later_words
climb-later F n zero y h = sym (choose_none (shifted_alphabet F (n - y) 0))
climb-later F n (suc k) y h =
    omega (
      arith,
      climb-later F n k (least F y) (next_fits F n k y h),
      from_up F n k y h,
      ap (λ (m : ℕ). choose ((n - suc y) + shift F m) (suc m)) (climb_long F k (least F y)),
    )

-- ---- the next word

pub lex_next_long : (F : Family) (n : ℕ) (w : List ℕ) → length (lex_next F n w) ≡ length w
unfolding lex_next
lex_next_long F n [] = refl
lex_next_long F n (x ∷ xs) = go (has_later F n xs) (lex_next_long F n xs)
  where
    go : (t : Bool) → length (lex_next F n xs) ≡ length xs → length (pick t (x ∷ lex_next F n xs) (climb F (suc (length xs)) (suc x))) ≡ suc (length xs)
    go true ih = ap suc ih
    go false ih = climb_long F (suc (length xs)) (suc x)

-- above a symbol x, the first of the next word is not lower than the first of the word
above : (F : Family) (n x : ℕ) (w : List ℕ) → Monotone F (x ∷ w) → Monotone F (x ∷ lex_next F n w)
unfolding lex_next climb
above F n x [] m = tt
above F n x (y ∷ ys) m = go (has_later F n ys) (above F n y ys m.1)
  where
    go : (t : Bool) → Monotone F (y ∷ lex_next F n ys) → Monotone F (x ∷ pick t (y ∷ lex_next F n ys) (climb F (suc (length ys)) (suc y)))
    go true ih = (m.0, ih)
    go false ih = (step_further F x y m.0, climb-monotone F (suc (length ys)) (suc y))

next_monotone : (F : Family) (n : ℕ) (w : List ℕ) → Monotone F w → Monotone F (lex_next F n w)
unfolding lex_next
next_monotone F n [] m = tt
next_monotone F n (x ∷ xs) m = go (has_later F n xs)
  where
    go : (t : Bool) → Monotone F (pick t (x ∷ lex_next F n xs) (climb F (suc (length xs)) (suc x)))
    go true = above F n x xs m
    go false = climb-monotone F (suc (length xs)) (suc x)

next_below : (F : Family) (n : ℕ) (w : List ℕ) → has_later F n w ≡ true → Below n w → Below n (lex_next F n w)
unfolding lex_next has_later
next_below F n [] e b = tt
next_below F n (x ∷ xs) e b = go (has_later F n xs) refl e (next_below F n xs)
  where
    go : (t : Bool) → has_later F n xs ≡ t → pick t true (ltb x (highest F n (length xs))) ≡ true
        → (has_later F n xs ≡ true → Below n xs → Below n (lex_next F n xs))
        → Below n (pick t (x ∷ lex_next F n xs) (climb F (suc (length xs)) (suc x)))
    go true p q ih = (b.0, ih p b.1)
    go false p q ih = climb_below F n (suc (length xs)) (suc x) (raised_fits F n (length xs) x (ltb-true x (highest F n (length xs)) q))

none_later : (F : Family) (n : ℕ) (w : List ℕ) → has_later F n w ≡ false → later_words F n w ≡ 0
unfolding has_later later_words
none_later F n [] e = refl
none_later F n (x ∷ xs) e = go (has_later F n xs) refl e (none_later F n xs)
  where
    go : (t : Bool) → has_later F n xs ≡ t → pick t true (ltb x (highest F n (length xs))) ≡ false → (has_later F n xs ≡ false → later_words F n xs ≡ 0)
        → choose ((n - suc x) + shift F (length xs)) (suc (length xs)) + later_words F n xs ≡ 0
    go true p q ih = absurd (let z : ◌≡◌ {A = Bool} true false = q in let o : ◌≡◌ {A = ℕ} 0 1 = cc in omega arith)
    go false p q ih =
        omega (arith, ih p, choose-few ((n - suc x) + shift F (length xs)) (suc (length xs)) (highest_none F n (length xs) x (ltb-false x (highest F n (length xs)) q)))

one_fewer : (F : Family) (n : ℕ) (w : List ℕ) → has_later F n w ≡ true → suc (later_words F n (lex_next F n w)) ≡ later_words F n w
unfolding has_later later_words lex_next
one_fewer F n [] e = absurd (let o : ◌≡◌ {A = ℕ} 0 1 = cc in omega arith)
one_fewer F n (x ∷ xs) e = go (has_later F n xs) refl e (one_fewer F n xs)
  where
    go : (t : Bool) → has_later F n xs ≡ t → pick t true (ltb x (highest F n (length xs))) ≡ true
        → (has_later F n xs ≡ true → suc (later_words F n (lex_next F n xs)) ≡ later_words F n xs)
        → suc (later_words F n (pick t (x ∷ lex_next F n xs) (climb F (suc (length xs)) (suc x)))) ≡ later_words F n (x ∷ xs)
    go true p q ih = omega (arith, ih p, ap (λ (m : ℕ). choose ((n - suc x) + shift F m) (suc m)) (lex_next_long F n xs))
    go false p q ih =
        omega (
          arith,
          none_later F n xs p,
          climb-later F n (suc (length xs)) (suc x) (raised_fits F n (length xs) x (ltb-true x (highest F n (length xs)) q)),
          ap (λ (m : ℕ). choose m (suc (length xs))) (at_one F (n - suc x) (length xs)),
        )

-- ---- over n

module _ (F : Family) (n k : ℕ) (w : List ℕ) (h : Word F n k w) where
  pub lex-next-is-a-word : has_later F n w ≡ true → Word F n k (lex_next F n w)
  lex-next-is-a-word e =
      record { long = lex_next_long F n w ∙ h.long; monotone = next_monotone F n w h.monotone; below = next_below F n w e h.below }

  pub lex-next-rank : has_later F n w ≡ true → lex_rank F n (lex_next F n w) ≡ suc (lex_rank F n w)
  lex-next-rank e =
      omega (
        arith,
        lex_rank_sum F n k w h,
        lex_rank_sum F n k (lex_next F n w) (lex-next-is-a-word e),
        one_fewer F n w e,
        rank_of_mirror F n w,
        rank_of_mirror F n (lex_next F n w),
      )

  pub lex-last-rank : has_later F n w ≡ false → suc (lex_rank F n w) ≡ count F n k
  lex-last-rank e = omega (arith, lex_rank_sum F n k w h, none_later F n w e, rank_of_mirror F n w)

  pub lex-next-is-later : has_later F n w ≡ true → LexLt w (lex_next F n w)
  lex-next-is-later e = lex_of_rank F n k w (lex_next F n w) h (lex-next-is-a-word e) (omega (arith, lex-next-rank e))

  pub nothing-between-word-and-lex-next : has_later F n w ≡ true → (u : List ℕ) → Word F n k u → LexLt w u → LexLt u (lex_next F n w) → ⊥
  nothing-between-word-and-lex-next e u l a b =
      omega (arith, lex-next-rank e, lex_rank_rises F n k w u h l a, lex_rank_rises F n k u (lex_next F n w) l (lex-next-is-a-word e) b)

  pub nothing-after-lex-last : has_later F n w ≡ false → (u : List ℕ) → Word F n k u → LexLt w u → ⊥
  nothing-after-lex-last e u l a = omega (arith, lex-last-rank e, lex_rank_rises F n k w u h l a, lex_rank_below_count F n k u l)
