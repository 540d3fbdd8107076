-- What the checks of a given word tell of it, over the greatest shifted symbol t, and the other way round. Assumes nothing.
--   RankedIn t F u    the word keeps its rule and the width limits
--   checked_in_given, checked_in_gives    what the checks of a word tell
--   ranked_in_fits    the bits of a word that passes them fit t + 1 digits
--   word_ranked_in    a word over an alphabet that keeps the width limits passes the checks
--   widest_in_none, widest_in_some    the widest alphabet, with a program's k - 1
--   widest_in_fits    its shifted alphabet is w
use mathlib.Core.Path.{◌≡◌, refl}
use mathlib.Core.Bool.{true, false, not}
use mathlib.Core.List.{List, [], ◌∷◌}
use Prim.Native.Nat.{ℕ, zero, suc, ◌+◌, ◌-◌, ◌^◌, ◌≤◌, ◌<◌}
use native.Mathlib.Decide.{dec_le}
use native.Mathlib.Omega.{arith}
use borrow.Author.Tests.{ltb-false, le-ltb, not-false}
use lib.Dec.{ltb}
use lib.ListN.{length}
use Rattle.words.specs.declared.Family.{Family}
use Rattle.words.specs.declared.Family.TheVariants.{Forbidden, Allowed}
use Rattle.words.specs.Word.{Monotone, Word, shift, shifted, shifted_alphabet}
use Rattle.words.specs.Bits.{bits_of}
use Rattle.words.proofs.Bits.{bits_fit}
use Rattle.words.proofs.Positions.{shifted_below}
use Rattle.words.proofs.Shifted.{shifted-monotone}
use Rattle.answers.specs.Says.{Says, gives, refused_if, refused_at_if}
use Rattle.answers.proofs.Says.{passed, passed_with}
use Rattle.packing.specs.Checks.{rises, break_at, last_shifted}
use Rattle.packing.proofs.Checks.{rises_is_monotone, shifted-fit, last_shifted_at, last_shifted_none}
use Rattle.widths.specs.Rules.{checked_in, widest_in}

pub record RankedIn (t : ℕ) (F : Family) (u : List ℕ) : Type 0 where
  pub short : length u ≤ suc t
  pub monotone : Monotone F u
  pub low : last_shifted F u ≤ t

pub checked_in_given : {A : Type 0} (t : ℕ) (F : Family) (u : List ℕ) (s : Says A) (b : A) → checked_in t F u s ≡ gives b → RankedIn t F u × (s ≡ gives b)
checked_in_given t F u s b e = go (passed (ltb (suc t) (length u)) 1 (refused_at_if (not (rises F u)) 2 (break_at F u) (refused_if (ltb t (last_shifted F u)) 1 s)) b e)
  where
    go : (ltb (suc t) (length u) ≡ false) × (refused_at_if (not (rises F u)) 2 (break_at F u) (refused_if (ltb t (last_shifted F u)) 1 s) ≡ gives b) → RankedIn t F u × (s ≡ gives b)
    go p = on (passed_with (not (rises F u)) 2 (break_at F u ∷ []) (refused_if (ltb t (last_shifted F u)) 1 s) b p.1)
      where
        on : (not (rises F u) ≡ false) × (refused_if (ltb t (last_shifted F u)) 1 s ≡ gives b) → RankedIn t F u × (s ≡ gives b)
        on q = last (passed (ltb t (last_shifted F u)) 1 s b q.1)
          where
            last : (ltb t (last_shifted F u) ≡ false) × (s ≡ gives b) → RankedIn t F u × (s ≡ gives b)
            last r = (
              record {
                short = ltb-false (suc t) (length u) p.0;
                monotone = (rises_is_monotone F u).0 (not-false (rises F u) q.0);
                low = ltb-false t (last_shifted F u) r.0;
              },
              r.1,
            )

pub checked_in_gives : {A : Type 0} (t : ℕ) (F : Family) (u : List ℕ) (s : Says A) → RankedIn t F u → checked_in t F u s ≡ s
checked_in_gives t F u s h =
    simp (le-ltb (suc t) (length u) h.short, (rises_is_monotone F u).1 h.monotone, le-ltb t (last_shifted F u) h.low)

pub ranked_in_fits : (t : ℕ) (F : Family) (u : List ℕ) → rises F u ≡ true → last_shifted F u ≤ t → bits_of (shifted F u) < 2 ^ suc t
ranked_in_fits t F u e h =
    let m : Monotone F u = (rises_is_monotone F u).0 e in
    bits_fit (suc t) (shifted F u) ((shifted-monotone F u).0 m) (shifted-fit F 0 (suc t) u m (omega arith))

pub word_ranked_in : (t : ℕ) (F : Family) (n k : ℕ) (w : List ℕ) → Word F n k w → k ≤ suc t → shifted_alphabet F n k ≤ suc t → RankedIn t F w
word_ranked_in t F n k w h d l = record { short = omega (arith, h.long); monotone = h.monotone; low = go (dec_le 1 (length w)) }
  where
    go : Dec (1 ≤ length w) → last_shifted F w ≤ t
    go (yes p) = omega (arith, last_shifted_at F w p, shifted_below F n k w h (length w - 1) (omega arith))
    go (no p) = omega (arith, last_shifted_none F w (omega arith))

-- ---- the widest alphabet

pub widest_in_none : (w : ℕ) (F : Family) (k : ℕ) → k ≡ 0 → w ≡ widest_in w F k
widest_in_none w Forbidden k e = refl
widest_in_none w Allowed zero e = refl
widest_in_none w Allowed (suc k) e = absurd (omega arith)

pub widest_in_some : (w : ℕ) (F : Family) (k : ℕ) → 0 < k → w - shift F (k - 1) ≡ widest_in w F k
widest_in_some w Forbidden k h = omega arith
widest_in_some w Allowed zero h = absurd (omega arith)
widest_in_some w Allowed (suc k) h = omega arith

pub widest_in_fits : (w : ℕ) (F : Family) (k : ℕ) → k ≤ w → shifted_alphabet F (widest_in w F k) k ≡ w
widest_in_fits w Forbidden k h = refl
widest_in_fits w Allowed zero h = refl
widest_in_fits w Allowed (suc k) h = omega arith
