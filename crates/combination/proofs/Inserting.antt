-- A set with one symbol more. Assumes nothing.
--   with_one    the digit of a symbol that the set has not, joined to it, makes the number of the two
--   in_with_one    that has the symbols of the set, and s
use mathlib.Core.Path.{◌≡◌, sym, subst, ◌∙◌}
use mathlib.Core.Logic.{◌↔◌, ◌⊎◌, inl, inr, ⊎_elim}
use mathlib.Core.List.{[], ◌∷◌}
use Prim.Native.Nat.{ℕ, ◌^◌}
use native.Mathlib.Omega.{arith}
use lib.Bits.{bit_or, or_disjoint}
use Rattle.words.specs.HowMany.{In}
use Rattle.words.specs.Bits.{bits_of, set_bits}
use Rattle.words.proofs.Bits.{bits_of_set}
use Rattle.words.proofs.SetLaws.{set_of_one}
use Rattle.words.proofs.Members.{in_or, and_zero_is_disjoint}

in_one : (s x : ℕ) → In x (set_bits (2 ^ s)) → x ≡ s
in_one s x i = ⊎_elim (λ e. e) (λ n. absurd n) (subst (In x) (set_of_one s) i)

pub with_one : (a s : ℕ) → (In s (set_bits a) → ⊥) → bit_or a (2 ^ s) ≡ bits_of (s ∷ set_bits a)
unfolding bits_of
with_one a s n =
    or_disjoint a (2 ^ s) ((and_zero_is_disjoint a (2 ^ s)).1 (λ x i j. n (subst (λ (y : ℕ). In y (set_bits a)) (in_one s x j) i)))
    ∙ omega (arith, bits_of_set a)

pub in_with_one : (a s x : ℕ) → (In s (set_bits a) → ⊥) → In x (set_bits (bits_of (s ∷ set_bits a))) ↔ ((x ≡ s) ⊎ In x (set_bits a))
in_with_one a s x n =
    subst (λ (b : ℕ). In x (set_bits b) ↔ ((x ≡ s) ⊎ In x (set_bits a))) (with_one a s n) (
      λ i. ⊎_elim inr (λ j. inl (in_one s x j)) ((in_or x a (2 ^ s)).0 i),
      ⊎_elim (λ e. (in_or x a (2 ^ s)).1 (inr (subst (In x) (sym (set_of_one s)) (inl e)))) (λ i. (in_or x a (2 ^ s)).1 (inl i)),
    )
