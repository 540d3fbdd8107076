-- 02, §9: "any count of 2^64 or more is refused with 9", "judged exactly". Assumes nothing.
--   held_exactly_below    a number is refused with 9 exactly if it is 2 ^ 64 or more
--   wide_count_too_big_exactly    of a degree and a shifted alphabet up to 128, the count is refused with 9 exactly if there are 2 ^ 64 words or more
--   wide_index_rank_too_big_exactly    the rank of an index is refused with 9 exactly if it is 2 ^ 64 or more
--   wide_rank_too_big_exactly    and so is the rank of a word that passes the checks of a word
--   topped x    x, or 2 ^ 64 where x is more: a number that saturates
--   saturated_from F i w    the sum of the weights of a word from position i up, where every binomial and every sum saturates
--   saturated_is_topped    it is the exact sum, topped
--   saturating_decides    so the two decide alike: one is 2 ^ 64 or more exactly if the other is, and below it they are equal
use mathlib.Core.Path.{◌≡◌, refl, sym, ap, ap₂, ◌∙◌}
use mathlib.Core.Logic.{◌↔◌}
use mathlib.Core.List.{List, [], ◌∷◌}
use Prim.Native.Nat.{ℕ, suc, ◌+◌, ◌^◌, ◌≤◌, ◌<◌}
use native.Mathlib.Decide.{dec_le, dec_lt}
use native.Mathlib.Omega.{arith}
use borrow.Author.Tests.{lt-ltb, le-ltb}
use lib.Dec.{ltb}
use Rattle.pascal.specs.Choose.{choose}
use Rattle.words.specs.declared.Family.{Family}
use Rattle.words.specs.Pick.{pick}
use Rattle.words.specs.Word.{shift, shifted_alphabet, count}
use Rattle.words.specs.Rank.{rank_from, rank_of}
use Rattle.answers.specs.Says.{refuses, and_then}
use Rattle.answers.proofs.Says.{gives_no_refusal}
use Rattle.widths.specs.Rules.{word_in, held_says}
use Rattle.widths.proofs.Counting.{held_gives, held-refuses, count_in_gives}
use Rattle.widths.proofs.Checking.{RankedIn, checked_in_gives}
use Rattle.wide.specs.declared.Wide.{Wide}
use Rattle.wide.specs.Answers.{whole_of}
use Rattle.wide.specs.Rules.{wide_count_says, wide_rank_says, wide_rank_of_says}

pub held_exactly_below : (x : ℕ) → (held_says x ≡ refuses 9) ↔ (2 ^ 64 ≤ x)
held_exactly_below x = (λ e. go e (dec_le (2 ^ 64) x), held-refuses x)
  where
    go : held_says x ≡ refuses 9 → Dec (2 ^ 64 ≤ x) → 2 ^ 64 ≤ x
    go e (yes h) = h
    go e (no h) = absurd (gives_no_refusal x 9 (sym (held_gives x (omega arith)) ∙ e))

pub wide_count_too_big_exactly : (F : Family) (n k : ℕ) → k ≤ 128 → shifted_alphabet F n k ≤ 128 → (wide_count_says F n k ≡ refuses 9) ↔ (2 ^ 64 ≤ count F n k)
wide_count_too_big_exactly F n k h l = (
  λ e. (held_exactly_below (count F n k)).0 (sym (ap (λ s. and_then s held_says) (count_in_gives 128 F n k h l)) ∙ e),
  λ b. ap (λ s. and_then s held_says) (count_in_gives 128 F n k h l) ∙ held-refuses (count F n k) b,
)

pub wide_index_rank_too_big_exactly : (x : Wide) → (wide_rank_of_says x ≡ refuses 9) ↔ (2 ^ 64 ≤ rank_of x.family (word_in x.family (whole_of x)))
wide_index_rank_too_big_exactly x = held_exactly_below (rank_of x.family (word_in x.family (whole_of x)))

pub wide_rank_too_big_exactly : (F : Family) (u : List ℕ) → RankedIn 127 F u → (wide_rank_says F u ≡ refuses 9) ↔ (2 ^ 64 ≤ rank_of F u)
wide_rank_too_big_exactly F u d = (
  λ e. (held_exactly_below (rank_of F u)).0 (sym (checked_in_gives 127 F u (held_says (rank_of F u)) d) ∙ e),
  λ b. checked_in_gives 127 F u (held_says (rank_of F u)) d ∙ held-refuses (rank_of F u) b,
)

-- ---- numbers that saturate

abbrev pub topped : ℕ → ℕ
topped x = pick (ltb x (2 ^ 64)) x (2 ^ 64)

-- a sum of two that are topped, topped, is the sum topped
topped-sum : (x y : ℕ) → topped (topped x + topped y) ≡ topped (x + y)
topped-sum x y = go (dec_lt x (2 ^ 64)) (dec_lt y (2 ^ 64))
  where
    over : (z : ℕ) → 2 ^ 64 ≤ z → topped z ≡ 2 ^ 64
    over z h = simp (le-ltb z (2 ^ 64) h)

    under : (z : ℕ) → z < 2 ^ 64 → topped z ≡ z
    under z h = simp (lt-ltb z (2 ^ 64) h)

    go : Dec (x < 2 ^ 64) → Dec (y < 2 ^ 64) → topped (topped x + topped y) ≡ topped (x + y)
    go (yes p) (yes q) = ap₂ (λ (a b : ℕ). topped (a + b)) (under x p) (under y q)
    go (no p) b = over (topped x + topped y) (omega (arith, over x (omega arith))) ∙ sym (over (x + y) (omega arith))
    go (yes p) (no q) = over (topped x + topped y) (omega (arith, over y (omega arith))) ∙ sym (over (x + y) (omega arith))

-- the first symbol of the list stands at position i
unfoldable pub saturated_from : Family → ℕ → List ℕ → ℕ
saturated_from F i [] = 0
saturated_from F i (x ∷ xs) = topped (topped (choose (x + shift F i) (suc i)) + saturated_from F (suc i) xs)

pub saturated_is_topped : (F : Family) (i : ℕ) (w : List ℕ) → saturated_from F i w ≡ topped (rank_from F i w)
unfolding saturated_from rank_from
saturated_is_topped F i [] = refl
saturated_is_topped F i (x ∷ xs) =
    ap (λ (s : ℕ). topped (topped (choose (x + shift F i) (suc i)) + s)) (saturated_is_topped F (suc i) xs) ∙ topped-sum (choose (x + shift F i) (suc i)) (rank_from F (suc i) xs)

pub saturating_decides : (F : Family) (w : List ℕ) → ((2 ^ 64 ≤ saturated_from F 0 w) ↔ (2 ^ 64 ≤ rank_of F w)) × (rank_of F w < 2 ^ 64 → saturated_from F 0 w ≡ rank_of F w)
saturating_decides F w = ((to, back), under)
  where
    under : rank_of F w < 2 ^ 64 → saturated_from F 0 w ≡ rank_of F w
    under h = saturated_is_topped F 0 w ∙ simp (lt-ltb (rank_of F w) (2 ^ 64) h)

    back : 2 ^ 64 ≤ rank_of F w → 2 ^ 64 ≤ saturated_from F 0 w
    back h =
        let t : topped (rank_of F w) ≡ 2 ^ 64 = simp (le-ltb (rank_of F w) (2 ^ 64) h) in
        omega (arith, saturated_is_topped F 0 w)

    to : 2 ^ 64 ≤ saturated_from F 0 w → 2 ^ 64 ≤ rank_of F w
    to h = go (dec_le (2 ^ 64) (rank_of F w))
      where
        go : Dec (2 ^ 64 ≤ rank_of F w) → 2 ^ 64 ≤ rank_of F w
        go (yes p) = p
        go (no p) = absurd (omega (arith, under (omega arith)))
