-- The search for the places of the step to the next permutation. Assumes nothing.
--   fall-here, no-fall-here, no-fall    the search for the first entry that is smaller than the one before it
--   greater-here, no-greater    the search for the first entry that is greater than that at k
--   no-next, next-places    what the places found tell
use mathlib.Core.Path.{◌≡◌}
use Prim.Native.Nat.{ℕ, suc, ◌+◌, ◌-◌, ◌≤◌, ◌<◌}
use native.Mathlib.Decide.{ℕ_discrete}
use native.Mathlib.Omega.{arith}
use lib.ListN.{get_or}
use Rattle.words.specs.Factorial.{factorial}
use Rattle.arrangements.specs.Rank.{arrangement_rank}
use Rattle.arrangements.specs.Step.{Rises, FirstFall, FirstGreater}
use Rattle.arrangements.proofs.Places.{by_places}
use Rattle.arrangements.proofs.Next.{Falls, rises_on, rising_is_last, found-falls}
use Rattle.permutation.specs.declared.Permutation.{Permutation}
use Rattle.permutation.specs.Record.{arrangement_of, GoodRecord}
use Rattle.permutation.proofs.Taken.{word_at}

module _ (p : Permutation) (k : ℕ) where
  pub fall-here : 0 < k → k < p.len → Rises (arrangement_of p) k → get_or p.entries k 0 < get_or p.entries (k - 1) 0 → FirstFall p.len (arrangement_of p) k
  fall-here z h r f =
      record { within = omega arith; rises = r; falls = λ l. (z, omega (arith, word_at p k h, word_at p (k - 1) (omega arith))) }

  -- the two entries are not the same, so the later is greater
  pub no-fall-here : GoodRecord p → 0 < k → k < p.len → Rises (arrangement_of p) k → get_or p.entries (k - 1) 0 ≤ get_or p.entries k 0 → Rises (arrangement_of p) (k + 1)
  no-fall-here o z h r f = rises_on (arrangement_of p) k z r (go (ℕ_discrete (get_or (arrangement_of p) (k - 1) 0) (get_or (arrangement_of p) k 0)))
    where
      go : Dec (get_or (arrangement_of p) (k - 1) 0 ≡ get_or (arrangement_of p) k 0) → get_or (arrangement_of p) (k - 1) 0 < get_or (arrangement_of p) k 0
      go (yes e) = absurd (omega (arith, (by_places p.len (arrangement_of p) o.permutation).apart (k - 1) k (omega arith) h e))
      go (no e) = omega (arith, word_at p k h, word_at p (k - 1) (omega arith))

  pub no-fall : p.len ≤ k → Rises (arrangement_of p) k → FirstFall p.len (arrangement_of p) p.len
  no-fall l r = record { within = omega arith; rises = λ i j a b. r i j a (omega arith); falls = λ h. absurd (omega arith) }

  pub greater-here : (i : ℕ) → k < p.len → i < k → ((j : ℕ) → j < i → get_or p.entries j 0 ≤ get_or p.entries k 0)
      → get_or p.entries k 0 < get_or p.entries i 0 → FirstGreater (arrangement_of p) k i
  greater-here i h l low f =
      record {
        within = omega arith;
        lower = λ j m. omega (arith, low j m, word_at p j (omega arith), word_at p k h);
        greater = λ m. omega (arith, word_at p i (omega arith), word_at p k h);
      }

  pub no-greater : k < p.len → ((j : ℕ) → j < k → get_or p.entries j 0 ≤ get_or p.entries k 0) → FirstGreater (arrangement_of p) k k
  no-greater h low =
      record { within = omega arith; lower = λ j m. omega (arith, low j m, word_at p j (omega arith), word_at p k h); greater = λ m. omega arith }

-- ---- what the places found tell

module _ (p : Permutation) (o : GoodRecord p) (k : ℕ) (f : FirstFall p.len (arrangement_of p) k) where
  pub no-next : k ≡ p.len → suc (arrangement_rank (arrangement_of p)) ≡ factorial p.len
  no-next e = rising_is_last p.len (arrangement_of p) o.permutation.long (λ i j a b. f.rises i j a (omega arith))

  pub next-places : (k ≡ p.len → ⊥) → (i : ℕ) → FirstGreater (arrangement_of p) k i → Falls p.len (arrangement_of p) i k
  next-places e i g = found-falls p.len (arrangement_of p) o.permutation i k f (omega (arith, f.within)) g
