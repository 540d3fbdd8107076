-- A walk down the numbers below w that seeks the set of a rank. Assumes nothing.
--   Descent w k r s i left a    of the set of k numbers that has rank r, a has those from s up, and the i others weigh left
--   descent_takes, descent_passes    a turn of the walk tries the number below s, and takes it or passes it by
use mathlib.Core.Path.{◌≡◌, sym, ap, subst, ◌∙◌}
use mathlib.Core.List.{◌∷◌}
use Prim.Native.Nat.{ℕ, suc, ◌+◌, ◌-◌, ◌^◌, ◌≤◌, ◌<◌}
use native.Mathlib.Nat.{sub-zero, add_comm, le_refl}
use native.Mathlib.Omega.{arith}
use Rattle.words.specs.declared.Family.TheVariants.{Forbidden}
use Rattle.pascal.specs.Choose.{choose}
use Rattle.pascal.specs.Row.{entry}
use Rattle.words.specs.Unrank.{fill, unrank_of}
use Rattle.words.specs.Bits.{set_bits, bits_of}
use Rattle.pascal.proofs.Choose.{pascal}
use Rattle.pascal.proofs.Row.{entry_is_choose}
use Rattle.words.proofs.Unrank.{fill_step}
use Rattle.words.proofs.Bits.{From, in_front, from_le, bits_of_set, bits_fit, set-bits-monotone}
use Rattle.words.proofs.Digits.{set-bits-add, set-bits-word}

pub record Descent (w k r s i left a : ℕ) : Type 0 where
  pub low : s ≤ w
  pub fits : left < choose s i
  pub above : From s (set_bits a)
  pub small : a < 2 ^ w
  pub goal : fill Forbidden i left (set_bits a) ≡ unrank_of Forbidden k r

-- a number below all that are found
add-fits : (w s a : ℕ) → suc s ≤ w → From (suc s) (set_bits a) → a < 2 ^ w → 2 ^ s + a < 2 ^ w
unfolding bits_of
add-fits w s a l f h =
    subst (λ (b : ℕ). 2 ^ s + b < 2 ^ w) (bits_of_set a)
    (bits_fit w (s ∷ set_bits a) (in_front s (set_bits a) f (set-bits-monotone a)) (l, (set-bits-word w a h).below))

pub descent_takes : (w k r s i left a : ℕ) → Descent w k r (suc s) (suc i) left a → choose s (suc i) ≤ left → Descent w k r s i (left - choose s (suc i)) (a + 2 ^ s)
descent_takes w k r s i left a d h =
    rw (add_comm a (2 ^ s))
    (record {
      low = omega (arith, d.low);
      fits = omega (arith, d.fits, pascal s i);
      above = subst (From s) (sym (set-bits-add a s d.above)) (le_refl s, from_le (suc s) s (set_bits a) (omega arith) d.above);
      small = add-fits w s a d.low d.above d.small;
      goal = ap (fill Forbidden i (left - choose s (suc i))) (set-bits-add a s d.above ∙ ap (λ (x : ℕ). x ∷ set_bits a) (sym (sub-zero s)))
          ∙ sym (fill_step Forbidden i left (set_bits a) s h d.fits) ∙ d.goal;
    })

pub descent_passes : {w k r s i left a c : ℕ} → Descent w k r s i left a → c ≡ entry (s - 1) i → left < c → Descent w k r (s - 1) i left a
descent_passes {s = s} {a = a} d e h =
    record {
      low = omega (arith, d.low);
      fits = rw (e, entry_is_choose) at h;
      above = from_le s (s - 1) (set_bits a) (omega arith) d.above;
      small = d.small;
      goal = d.goal;
    }
