-- What the count over w bits answers, and what its answers tell. Assumes nothing.
--   held_gives, held-refuses, held_given    a number that 64 digits hold, one that they do not, and what an answer tells
--   count_in_gives, count_in_wide    when the count over w answers, and when it refuses
--   CountedIn w F n k c    the width limits hold, and c is the count
--   count_in_given    what the count over w tells
use mathlib.Core.Path.{◌≡◌, sym}
use mathlib.Core.Bool.{true, false}
use Prim.Native.Nat.{ℕ, ◌^◌, ◌≤◌, ◌<◌}
use borrow.Author.Tests.{ltb-false, leb-false, lt-ltb, le-ltb, lt-leb, le-leb}
use lib.Dec.{leb, ltb}
use Rattle.words.specs.declared.Family.{Family}
use Rattle.words.specs.Word.{shifted_alphabet, count}
use Rattle.answers.specs.Says.{refuses, gives, refused_if}
use Rattle.answers.proofs.Says.{gives_same, passed}
use Rattle.widths.specs.Rules.{count_in, held_says}

pub held_gives : (x : ℕ) → x < 2 ^ 64 → held_says x ≡ gives x
held_gives x h = simp (lt-leb (2 ^ 64) x h)

pub held-refuses : (x : ℕ) → 2 ^ 64 ≤ x → held_says x ≡ refuses 9
held-refuses x h = simp (le-leb (2 ^ 64) x h)

pub held_given : (x c : ℕ) → held_says x ≡ gives c → (x < 2 ^ 64) × (x ≡ c)
held_given x c e = let p = passed (leb (2 ^ 64) x) 9 (gives x) c e in (leb-false (2 ^ 64) x p.0, gives_same x c p.1)

pub count_in_gives : (w : ℕ) (F : Family) (n k : ℕ) → k ≤ w → shifted_alphabet F n k ≤ w → count_in w F n k ≡ gives (count F n k)
count_in_gives w F n k h l = simp (le-ltb w k h, le-ltb w (shifted_alphabet F n k) l)

pub count_in_wide : (w : ℕ) (F : Family) (n k : ℕ) → k ≤ w → w < shifted_alphabet F n k → count_in w F n k ≡ refuses 1
count_in_wide w F n k h l = simp (le-ltb w k h, lt-ltb w (shifted_alphabet F n k) l)

pub record CountedIn (w : ℕ) (F : Family) (n k c : ℕ) : Type 0 where
  pub degree : k ≤ w
  pub alphabet : shifted_alphabet F n k ≤ w
  pub is : c ≡ count F n k

pub count_in_given : (w : ℕ) (F : Family) (n k c : ℕ) → count_in w F n k ≡ gives c → CountedIn w F n k c
count_in_given w F n k c e = go (passed (ltb w k) 1 (refused_if (ltb w (shifted_alphabet F n k)) 1 (gives (count F n k))) c e)
  where
    go : (ltb w k ≡ false) × (refused_if (ltb w (shifted_alphabet F n k)) 1 (gives (count F n k)) ≡ gives c) → CountedIn w F n k c
    go p = on (passed (ltb w (shifted_alphabet F n k)) 1 (gives (count F n k)) c p.1)
      where
        on : (ltb w (shifted_alphabet F n k) ≡ false) × (gives (count F n k) ≡ gives c) → CountedIn w F n k c
        on q = record { degree = ltb-false w k p.0; alphabet = ltb-false w (shifted_alphabet F n k) q.0; is = sym (gives_same (count F n k) c q.1) }
