-- The place where a word breaks its rule, for both families at once (02, §5). Assumes nothing.
--   breaks_at_the_first_pair    a word that breaks its rule does so at the second symbol of the first pair of neighbours that offends
--   first_break_is_one    there is one such place
--   break_ends_the_longest_beginning    of any word, what stands before that place is the longest beginning that keeps the rule
use mathlib.Core.Path.{◌≡◌, refl, sym, ap, subst, ◌∙◌}
use mathlib.Core.Bool.{Bool, true, false, true≢false}
use mathlib.Core.List.{List, [], ◌∷◌}
use Prim.Native.Nat.{ℕ, zero, suc, ◌≤◌, ◌<◌, zero-le}
use native.Mathlib.Nat.{le_of_suc-le-suc}
use native.Mathlib.Decide.{dec_lt}
use native.Mathlib.Omega.{arith}
use lib.ListN.{length, get_or, take}
use Rattle.words.specs.declared.Family.{Family}
use Rattle.words.specs.Pick.{pick}
use Rattle.words.specs.Word.{Step, Monotone}
use Rattle.packing.specs.Checks.{steps, rises, break_from, break_at}
use Rattle.packing.specs.Breaks.{FirstBreak, LongestKept}
use Rattle.packing.proofs.Checks.{step_of_test, test_of_step}

-- ---- counted from any position

break_later : (F : Family) (i : ℕ) (w : List ℕ) → break_from F (suc i) w ≡ suc (break_from F i w)
break_later F i [] = refl
break_later F i (x ∷ []) = refl
break_later F i (x ∷ y ∷ ys) = go (steps F x y) (break_later F (suc i) (y ∷ ys))
  where
    go : (t : Bool) → break_from F (suc (suc i)) (y ∷ ys) ≡ suc (break_from F (suc i) (y ∷ ys))
        → pick t (break_from F (suc (suc i)) (y ∷ ys)) (suc (suc i)) ≡ suc (pick t (break_from F (suc i) (y ∷ ys)) (suc i))
    go true e = e
    go false e = refl

-- one pair at the front of a word: it is passed, or the word breaks there
passes : (F : Family) (x y : ℕ) (ys : List ℕ) → steps F x y ≡ true → break_at F (x ∷ y ∷ ys) ≡ suc (break_at F (y ∷ ys))
passes F x y ys e = ap (λ t. pick t (break_from F 1 (y ∷ ys)) 1) e ∙ break_later F 0 (y ∷ ys)

stops : (F : Family) (x y : ℕ) (ys : List ℕ) → steps F x y ≡ false → break_at F (x ∷ y ∷ ys) ≡ 1
stops F x y ys e = ap (λ t. pick t (break_from F 1 (y ∷ ys)) 1) e

-- ---- the first pair

refused_step : (F : Family) (x y : ℕ) → steps F x y ≡ false → Step F x y → ⊥
refused_step F x y e s = true≢false (sym (test_of_step F x y s) ∙ e)

at_the_front : (F : Family) (x y : ℕ) (ys : List ℕ) → steps F x y ≡ false → FirstBreak F (x ∷ y ∷ ys) 1
at_the_front F x y ys e =
    record {
      above = omega arith;
      within = omega arith;
      offends = λ q p s. front q p s;
      first = λ q h. absurd (omega (arith, h));
    }
  where
    front : (q : ℕ) → suc q ≡ 1 → Step F (get_or (x ∷ y ∷ ys) q 0) y → ⊥
    front zero p s = refused_step F x y e s
    front (suc q) p s = omega (arith, p)

further_on : (F : Family) (x y : ℕ) (ys : List ℕ) (p : ℕ) → steps F x y ≡ true → FirstBreak F (y ∷ ys) p → FirstBreak F (x ∷ y ∷ ys) (suc p)
further_on F x y ys p e b =
    record {
      above = omega arith;
      within = omega (arith, b.within);
      offends = offends;
      first = first;
    }
  where
    offends : (q : ℕ) → suc q ≡ suc p → Step F (get_or (x ∷ y ∷ ys) q 0) (get_or (y ∷ ys) p 0) → ⊥
    offends zero g s = omega (arith, g, b.above)
    offends (suc q) g s = b.offends q (omega (arith, g)) s

    first : (q : ℕ) → suc q < suc p → Step F (get_or (x ∷ y ∷ ys) q 0) (get_or (y ∷ ys) q 0)
    first zero h = step_of_test F x y e
    first (suc q) h = b.first q (le_of_suc-le-suc h)

pub breaks_at_the_first_pair : (F : Family) (w : List ℕ) → rises F w ≡ false → FirstBreak F w (break_at F w)
breaks_at_the_first_pair F [] e = absurd (true≢false e)
breaks_at_the_first_pair F (x ∷ []) e = absurd (true≢false e)
breaks_at_the_first_pair F (x ∷ y ∷ ys) e = go (steps F x y) refl (breaks_at_the_first_pair F (y ∷ ys))
  where
    go : (t : Bool) → steps F x y ≡ t → (rises F (y ∷ ys) ≡ false → FirstBreak F (y ∷ ys) (break_at F (y ∷ ys))) → FirstBreak F (x ∷ y ∷ ys) (break_at F (x ∷ y ∷ ys))
    go true s more =
        subst (FirstBreak F (x ∷ y ∷ ys)) (sym (passes F x y ys s))
        (further_on F x y ys (break_at F (y ∷ ys)) s (more (sym (ap (λ t. pick t (rises F (y ∷ ys)) false) s) ∙ e)))
    go false s more = subst (FirstBreak F (x ∷ y ∷ ys)) (sym (stops F x y ys s)) (at_the_front F x y ys s)

-- the earlier of two would be an offending pair among those that keep the rule
not_earlier : (F : Family) (w : List ℕ) (p q : ℕ) → FirstBreak F w p → FirstBreak F w q → p < q → ⊥
not_earlier F w zero q b d h = omega (arith, b.above)
not_earlier F w (suc p) q b d h = b.offends p refl (d.first p h)

pub first_break_is_one : (F : Family) (w : List ℕ) (p q : ℕ) → FirstBreak F w p → FirstBreak F w q → p ≡ q
first_break_is_one F w p q b d = go (dec_lt p q) (dec_lt q p)
  where
    go : Dec (p < q) → Dec (q < p) → p ≡ q
    go (yes h) l = absurd (not_earlier F w p q b d h)
    go (no h) (yes l) = absurd (not_earlier F w q p d b l)
    go (no h) (no l) = omega (arith, h, l)

-- ---- the longest beginning

one_more : (F : Family) (x y : ℕ) (ys : List ℕ) (q : ℕ) → Step F x y → Monotone F (take q (y ∷ ys)) → Monotone F (take (suc q) (x ∷ y ∷ ys))
one_more F x y ys zero s m = tt
one_more F x y ys (suc q) s m = (s, m)

pub break_ends_the_longest_beginning : (F : Family) (w : List ℕ) → LongestKept F w (break_at F w)
break_ends_the_longest_beginning F [] = record { within = zero-le; keeps = tt; longest = λ q h m. h }
break_ends_the_longest_beginning F (x ∷ []) = record { within = omega arith; keeps = tt; longest = λ q h m. h }
break_ends_the_longest_beginning F (x ∷ y ∷ ys) = go (steps F x y) refl (break_ends_the_longest_beginning F (y ∷ ys))
  where
    w : List ℕ
    w = x ∷ y ∷ ys

    shorter : (q : ℕ) → Monotone F (take (suc (suc q)) w) → Step F x y × Monotone F (take (suc q) (y ∷ ys))
    shorter q m = m

    go : (t : Bool) → steps F x y ≡ t → LongestKept F (y ∷ ys) (break_at F (y ∷ ys)) → LongestKept F w (break_at F w)
    go true s more =
        subst (LongestKept F w) (sym (passes F x y ys s))
        (record {
          within = omega (arith, more.within);
          keeps = one_more F x y ys (break_at F (y ∷ ys)) (step_of_test F x y s) more.keeps;
          longest = longest;
        })
      where
        longest : (q : ℕ) → q ≤ length w → Monotone F (take q w) → q ≤ suc (break_at F (y ∷ ys))
        longest zero h m = zero-le
        longest (suc zero) h m = omega arith
        longest (suc (suc q)) h m = omega (arith, more.longest (suc q) (le_of_suc-le-suc h) (shorter q m).1)
    go false s more = subst (LongestKept F w) (sym (stops F x y ys s)) (record { within = omega arith; keeps = tt; longest = longest })
      where
        longest : (q : ℕ) → q ≤ length w → Monotone F (take q w) → q ≤ 1
        longest zero h m = zero-le
        longest (suc zero) h m = omega arith
        longest (suc (suc q)) h m = absurd (refused_step F x y s (shorter q m).0)
