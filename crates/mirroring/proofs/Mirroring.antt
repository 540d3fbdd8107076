-- The loop that mirrors a set, lowest number first. Assumes nothing.
--   Mirroring a bits left out    the numbers of bits that are not in left are mirrored in out
--   mirroring_starts, mirroring_ends    before the first number, and after the last
--   Turn a bits left out s m    what the lowest number of left brings
--   mirroring_turn    so it is
use mathlib.Core.Path.{◌≡◌, refl, sym, ap, subst, ◌∙◌}
use mathlib.Core.List.{List, [], ◌∷◌, ◌++◌, append_assoc}
use Prim.Native.Nat.{ℕ, suc, ◌+◌, ◌-◌, ◌*◌, ◌%◌, ◌^◌, ◌≤◌, ◌<◌}
use native.Mathlib.Nat.{lt_of_lt_of_le, one-mul}
use native.Mathlib.Omega.{arith}
use lib.Pow.{pow_mono, pow_pos, shl_exact}
use lib.ListN.{length, get_or, drop}
use Rattle.words.specs.declared.Family.TheVariants.{Forbidden}
use Rattle.words.specs.Word.{Monotone, Below}
use Rattle.words.specs.Bits.{bits_of, set_bits}
use Rattle.words.proofs.Bits.{bits_fit, below_of_bits, rest, set-bits-monotone, bits_of_set}
use Rattle.words.proofs.Digits.{set-bits-add, set-bits-zero}
use Rattle.lexicographic.specs.Order.{mirror}
use Rattle.lexicographic.proofs.Mirror.{mirror_below, mirror-monotone}

pub record Mirroring (a bits left out : ℕ) : Type 0 where
  pub all : mirror a (set_bits left) ++ set_bits out ≡ mirror a (set_bits bits)
  pub low : Below a (set_bits left)
  pub fits : out < 2 ^ 64

below_set : (a bits : ℕ) → bits < 2 ^ a → Below a (set_bits bits)
below_set a bits l = below_of_bits a (set_bits bits) (subst (λ (x : ℕ). x < 2 ^ a) (sym (bits_of_set bits)) l)

append_none : (u : List ℕ) → u ++ [] ≡ u
append_none [] = refl
append_none (x ∷ xs) = ap (λ (l : List ℕ). x ∷ l) (append_none xs)

pub mirroring_starts : (a bits : ℕ) → a ≤ 64 → bits < 2 ^ a → Mirroring a bits bits 0
mirroring_starts a bits h l =
    record { all = ap (λ (v : List ℕ). mirror a (set_bits bits) ++ v) set-bits-zero ∙ append_none (mirror a (set_bits bits)); low = below_set a bits l; fits = omega (arith, pow_pos 64) }

pub mirroring_ends : (a bits left out : ℕ) → Mirroring a bits left out → left ≡ 0 → set_bits out ≡ mirror a (set_bits bits)
unfolding mirror
mirroring_ends a bits left out p e = ap (λ (u : List ℕ). mirror a u ++ set_bits out) (sym (ap set_bits e ∙ set-bits-zero)) ∙ p.all

-- what follows in a word is a word, and below what the word is below
behind : (u v : List ℕ) → Monotone Forbidden (u ++ v) → Monotone Forbidden v
behind [] v m = m
behind (x ∷ []) [] m = tt
behind (x ∷ []) (y ∷ ys) m = m.1
behind (x ∷ y ∷ ys) v m = behind (y ∷ ys) v m.1

behind_below : (a : ℕ) (u v : List ℕ) → Below a (u ++ v) → Below a v
behind_below a [] v b = b
behind_below a (x ∷ xs) v b = behind_below a xs v b.1

pub record Turn (a bits left out s : ℕ) : Type 0 where
  pub low : s < a
  pub adds : out + 1 * 2 ^ (a - 1 - s) % 2 ^ 64 < 2 ^ 64
  pub again : (m : ℕ) → set_bits m ≡ drop 1 (set_bits left) → Mirroring a bits m (out + 1 * 2 ^ (a - 1 - s) % 2 ^ 64)
  pub less : (m : ℕ) → set_bits m ≡ drop 1 (set_bits left) → length (set_bits m) < length (set_bits left)

pub mirroring_turn : (a bits left out s : ℕ) → a ≤ 64 → bits < 2 ^ a → Mirroring a bits left out → (left ≡ 0 → ⊥)
    → s ≡ get_or (set_bits left) 0 64 → Turn a bits left out s
unfolding mirror bits_of
mirroring_turn a bits left out s h l p n e = go (set_bits left) refl
  where
    b : Below a (set_bits bits)
    b = below_set a bits l

    go : (w : List ℕ) → set_bits left ≡ w → Turn a bits left out s
    go [] q = absurd (n (sym (bits_of_set left) ∙ ap bits_of q))
    go (x ∷ xs) q =
        let y : s ≡ x = e ∙ ap (λ (v : List ℕ). get_or v 0 64) q in
        let k : s < a = omega (arith, y, (subst (Below a) q p.low).0) in
        let d : 1 * 2 ^ (a - 1 - s) % 2 ^ 64 ≡ 2 ^ (a - 1 - s) = shl_exact 1 (a - 1 - s) 64 (omega (arith, pow_pos 1)) (omega arith) ∙ one-mul (2 ^ (a - 1 - s)) in
        let t : a - suc x ≡ a - 1 - s = omega arith in
        let v : mirror a xs ++ (a - suc x) ∷ set_bits out ≡ mirror a (set_bits bits) =
        sym (append_assoc (mirror a xs) ((a - suc x) ∷ []) (set_bits out)) ∙ ap (λ (u : List ℕ). mirror a u ++ set_bits out) (sym q) ∙ p.all in
        let c : Monotone Forbidden ((a - suc x) ∷ set_bits out) = behind (mirror a xs) ((a - suc x) ∷ set_bits out) (subst (Monotone Forbidden) (sym v) (mirror-monotone Forbidden a (set_bits bits) b (set-bits-monotone bits))) in
        let g : Below a ((a - suc x) ∷ set_bits out) = behind_below a (mirror a xs) ((a - suc x) ∷ set_bits out) (subst (Below a) (sym v) (mirror_below a (set_bits bits) b)) in
        let z : bits_of ((a - suc x) ∷ set_bits out) < 2 ^ a = bits_fit a ((a - suc x) ∷ set_bits out) c g in
        let o : out + 2 ^ (a - 1 - s) < 2 ^ 64 = omega (arith, z, bits_of_set out, ap (λ (j : ℕ). 2 ^ j) t, pow_mono h) in
        let w : set_bits (2 ^ (a - suc x) + out) ≡ (a - suc x) ∷ set_bits out = set-bits-add out (a - suc x) (rest (a - suc x) (set_bits out) c) in
        let sum : 2 ^ (a - suc x) + out ≡ out + 2 ^ (a - 1 - s) = omega (arith, ap (λ (j : ℕ). 2 ^ j) t) in
        record {
          low = k;
          adds = omega (arith, d);
          again = λ m f. record {
            all = ap (λ (j : ℕ). mirror a (set_bits m) ++ set_bits (out + j)) d
                ∙ ap (λ (u : List ℕ). mirror a u ++ set_bits (out + 2 ^ (a - 1 - s))) (f ∙ ap (drop 1) q)
                ∙ ap (λ (j : ℕ). mirror a xs ++ set_bits j) (sym sum)
                ∙ ap (λ (u : List ℕ). mirror a xs ++ u) w
                ∙ v;
            low = subst (Below a) (sym (f ∙ ap (drop 1) q)) (subst (Below a) q p.low).1;
            fits = omega (arith, d);
          };
          less = λ m f. omega (arith, ap length q, ap length (f ∙ ap (drop 1) q));
        }

pub mirroring_some : (a bits left out : ℕ) → Mirroring a bits left out → (left ≡ 0 → ⊥) → 1 ≤ a
unfolding bits_of
mirroring_some a bits left out p n = go (set_bits left) refl
  where
    go : (w : List ℕ) → set_bits left ≡ w → 1 ≤ a
    go [] q = absurd (n (sym (bits_of_set left) ∙ ap bits_of q))
    go (x ∷ xs) q = omega (arith, (subst (Below a) q p.low).0)
