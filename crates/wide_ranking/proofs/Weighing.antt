-- The loop that weighs the numbers of the high half, over the width w of the low one. Assumes nothing.
--   Weighing w rank sum i left    the numbers of left, each raised by w, are still to be weighed, from position i up
--   weighing_starts, weighing_ends    before the first number of the high half, and after the last
--   Turn w rank sum i left s    s, the lowest number of left, is weighed next
--   turn    so it is
--   weighing_on    after the turn
use mathlib.Core.Path.{◌≡◌, refl, sym, ap, ap₂, subst, ◌∙◌}
use mathlib.Core.List.{List, [], ◌∷◌}
use Prim.Native.Nat.{ℕ, suc, ◌+◌, ◌^◌, ◌<◌}
use native.Mathlib.Nat.{zero-add, add-zero}
use native.Mathlib.Numerals.{add-one}
use native.Mathlib.Omega.{arith}
use lib.ListN.{length, get_or, drop}
use Rattle.words.specs.declared.Family.TheVariants.{Forbidden}
use Rattle.pascal.specs.Choose.{choose}
use Rattle.words.specs.Word.{Below}
use Rattle.words.specs.Rank.{rank_from, rank_of}
use Rattle.words.specs.Bits.{set_bits}
use Rattle.words.proofs.Bits.{bits_of_set, below_of_bits}
use Rattle.words.proofs.Positions.{rank_append}
use Rattle.words.proofs.SetLaws.{raised}
use Rattle.seam.specs.Joined.{joined}
use Rattle.seam.proofs.Joined.{joined-set}

pub record Weighing (w rank sum i left : ℕ) : Type 0 where
  pub fits : left < 2 ^ w
  pub whole : sum + rank_from Forbidden i (raised w (set_bits left)) ≡ rank

pub weighing_starts : (w l h sum i : ℕ) → l < 2 ^ w → h < 2 ^ w → sum ≡ rank_of Forbidden (set_bits l) → i ≡ length (set_bits l)
    → Weighing w (rank_of Forbidden (set_bits (joined w l h))) sum i h
weighing_starts w l h sum i p q e f =
    record {
      fits = q;
      whole = ap₂ (λ (x j : ℕ). x + rank_from Forbidden j (raised w (set_bits h))) e (f ∙ sym (zero-add (length (set_bits l))))
          ∙ sym (ap (rank_of Forbidden) (joined-set w l h p) ∙ rank_append Forbidden 0 (set_bits l) (raised w (set_bits h)));
    }

pub weighing_ends : (w rank sum i left : ℕ) → Weighing w rank sum i left → length (set_bits left) ≡ 0 → sum ≡ rank
unfolding rank_from
weighing_ends w rank sum i left o z = go (set_bits left) refl
  where
    go : (v : List ℕ) → set_bits left ≡ v → sum ≡ rank
    go [] q = omega (arith, o.whole, ap (λ (v : List ℕ). rank_from Forbidden i (raised w v)) q)
    go (x ∷ xs) q = absurd (omega (arith, z, ap length q))

pub record Turn (w rank sum i left s : ℕ) : Type 0 where
  pub low : s < w
  pub whole : sum + (choose (s + w) (i + 1) + rank_from Forbidden (i + 1) (raised w (drop 1 (set_bits left)))) ≡ rank

pub turn : (w rank sum i left s : ℕ) → Weighing w rank sum i left → 0 < length (set_bits left) → s ≡ get_or (set_bits left) 0 w → Turn w rank sum i left s
unfolding rank_from
turn w rank sum i left s o n e = go (set_bits left) refl (below_of_bits w (set_bits left) (subst (λ (b : ℕ). b < 2 ^ w) (sym (bits_of_set left)) o.fits))
  where
    go : (v : List ℕ) → set_bits left ≡ v → Below w v → Turn w rank sum i left s
    go [] q b = absurd (omega (arith, n, ap length q))
    go (x ∷ xs) q b =
        let t : s ≡ x = e ∙ ap (λ (v : List ℕ). get_or v 0 w) q in
        record {
          low = omega (arith, b.0);
          whole = omega (
            arith,
            o.whole,
            ap (λ (v : List ℕ). rank_from Forbidden i (raised w v)) q,
            ap₂ (λ (y j : ℕ). choose (y + w) j) t (add-one i),
            ap (λ (j : ℕ). choose j (suc i)) (add-zero (x + w)),
            ap₂ (λ (v : List ℕ) (j : ℕ). rank_from Forbidden j (raised w (drop 1 v))) q (add-one i),
          );
        }

pub weighing_on : (w rank sum i left s c rest : ℕ) → Turn w rank sum i left s → c ≡ choose (s + w) (i + 1) → set_bits rest ≡ drop 1 (set_bits left) → rest < 2 ^ w
    → Weighing w rank (sum + c) (i + 1) rest
weighing_on w rank sum i left s c rest t e f h =
    record {
      fits = h;
      whole = omega (arith, t.whole, e, ap (λ (v : List ℕ). rank_from Forbidden (i + 1) (raised w v)) f);
    }
