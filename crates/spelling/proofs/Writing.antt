-- Texts that are put in parts. Assumes nothing.
--   pair-stored    one more byte is put as two digits
--   none-put, past-full, pairs-full, pairs-put    the text of no bytes, of bytes that do not fit, and of bytes that do
use mathlib.Core.Path.{◌≡◌, refl, sym, ap, ap₂, ◌∙◌}
use mathlib.Core.List.{List, [], ◌∷◌, ◌++◌}
use Prim.Native.Nat.{ℕ, suc, ◌+◌, ◌*◌, ◌/◌, ◌%◌, ◌≤◌, ◌<◌}
use native.Mathlib.Numerals.{add-one}
use native.Mathlib.Omega.{arith}
use lib.ListN.{length, take, drop, get_or, set}
use lib.Seq.{paste, paste-suc, take-length}
use Rattle.text.specs.Text.{Put}
use Rattle.spelling.specs.Hex.{digit_text, hex_of, bytes_text}
use Rattle.spelling.proofs.Pairs.{hex_long, high_in, low_in}

module _ (out₀ out bytes : List ℕ) (at i : ℕ) where
  pub pair-stored : (x y : ℕ) → at + 2 * length bytes ≤ length out₀ → i < length bytes → out ≡ paste out₀ at (hex_of bytes) (2 * i)
      → x ≡ digit_text (get_or bytes i 0 / 16) → y ≡ digit_text (get_or bytes i 0 % 16)
      → set (set out (at + 2 * i) x) (at + (2 * i + 1)) y ≡ paste out₀ at (hex_of bytes) (2 * (i + 1))
  pair-stored x y h l e p q =
      let j = 2 * i in
      let s : suc (j + 1) ≡ 2 * (i + 1) = omega arith in
      let first : set out (at + j) x ≡ paste out₀ at (hex_of bytes) (j + 1) =
      ap₂ (λ (u : List ℕ) (v : ℕ). set u (at + j) v) e (p ∙ sym (high_in bytes i j l refl))
      ∙ paste-suc out₀ at (hex_of bytes) j 0 (omega arith) (omega (arith, hex_long bytes)) ∙ ap (paste out₀ at (hex_of bytes)) (sym (add-one j)) in
      ap₂ (λ (u : List ℕ) (v : ℕ). set u (at + (j + 1)) v) first (q ∙ sym (low_in bytes i (j + 1) l refl))
      ∙ paste-suc out₀ at (hex_of bytes) (j + 1) 0 (omega arith) (omega (arith, hex_long bytes)) ∙ ap (paste out₀ at (hex_of bytes)) s

-- a text that is no `-` has twice as many digits
long : (bytes : List ℕ) → (length bytes ≡ 0 → ⊥) → length (bytes_text bytes) ≡ 2 * length bytes
long [] d = absurd (d refl)
long (b ∷ bs) d = hex_long (b ∷ bs)

module _ (out bytes : List ℕ) (at : ℕ) where
  pub none-put : (out' : List ℕ) (next : ℕ) → length bytes ≡ 0 → Put out at (45 ∷ []) out' next → Put out at (bytes_text bytes) out' next
  none-put out' next e o = go bytes e
    where
      go : (bs : List ℕ) → length bs ≡ 0 → Put out at (bytes_text bs) out' next
      go [] q = o
      go (b ∷ bs) q = absurd (omega arith)

  pub past-full : (length bytes ≡ 0 → ⊥) → length out < at → Put out at (bytes_text bytes) out (length out)
  past-full d h = record { fits = λ l. absurd (omega arith); full = λ l. (refl, omega arith); within = omega arith }

  pub pairs-full : (length bytes ≡ 0 → ⊥) → at ≤ length out → length out < at + 2 * length bytes → Put out at (bytes_text bytes) out at
  pairs-full d h l =
      record { fits = λ k. absurd (omega (arith, long bytes d)); full = λ k. (refl, omega arith); within = omega arith }

  pub pairs-put : (out' : List ℕ) → (length bytes ≡ 0 → ⊥) → at + 2 * length bytes ≤ length out → out' ≡ paste out at (hex_of bytes) (2 * length bytes)
      → Put out at (bytes_text bytes) out' (at + 2 * length bytes)
  pairs-put out' d h e = go bytes d h e
    where
      go : (bs : List ℕ) → (length bs ≡ 0 → ⊥) → at + 2 * length bs ≤ length out → out' ≡ paste out at (hex_of bs) (2 * length bs) → Put out at (bytes_text bs) out' (at + 2 * length bs)
      go [] d h e = absurd (d refl)
      go (b ∷ bs) d h e =
          let n : 2 * length (b ∷ bs) ≡ length (hex_of (b ∷ bs)) = omega (arith, hex_long (b ∷ bs)) in
          record {
            fits = λ l. (
              e ∙ ap (paste out at (hex_of (b ∷ bs))) n
                  ∙ ap (λ (t : List ℕ). take at out ++ t ++ drop (at + length (hex_of (b ∷ bs))) out) (take-length (hex_of (b ∷ bs))),
              ap (λ (k : ℕ). at + k) n,
            );
            full = λ l. absurd (omega (arith, hex_long (b ∷ bs)));
            within = omega arith;
          }
