-- The number at a position of a set of 64 digits, which is 64 where there is none. Assumes nothing.
--   nth_missing, nth_there    it is 64 exactly if the set has no such position
use mathlib.Core.Path.{◌≡◌, sym, subst, ◌∙◌}
use Prim.Native.Nat.{ℕ, ◌^◌, ◌≤◌, ◌<◌}
use native.Mathlib.Decide.{dec_lt}
use native.Mathlib.Omega.{arith}
use lib.ListN.{length, get_or, get_or-eq_default}
use Rattle.words.specs.Bits.{set_bits}
use Rattle.words.proofs.Bits.{below_of_bits, bits_of_set}
use Rattle.words.proofs.Positions.{below_at}
use Rattle.packing.proofs.Symbols.{get_d_any}

pub nth_missing : (a p s : ℕ) → a < 2 ^ 64 → s ≡ get_or (set_bits a) p 64 → s ≡ 64 → length (set_bits a) ≤ p
nth_missing a p s h e q = go (dec_lt p (length (set_bits a)))
  where
    go : Dec (p < length (set_bits a)) → length (set_bits a) ≤ p
    go (yes l) =
        absurd
        (omega (
          arith,
          q,
          e ∙ get_d_any (set_bits a) p 64 0 l,
          (below_at 64 (set_bits a)).0 (below_of_bits 64 (set_bits a) (subst (λ (b : ℕ). b < 2 ^ 64) (sym (bits_of_set a)) h)) p l,
        ))
    go (no l) = omega (arith, l)

pub nth_there : (a p s : ℕ) → s ≡ get_or (set_bits a) p 64 → (s ≡ 64 → ⊥) → p < length (set_bits a)
nth_there a p s e q = go (dec_lt p (length (set_bits a)))
  where
    go : Dec (p < length (set_bits a)) → p < length (set_bits a)
    go (yes l) = l
    go (no l) = absurd (q (e ∙ get_or-eq_default (set_bits a) 64 (omega (arith, l))))
