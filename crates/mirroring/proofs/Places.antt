-- Ranks and words by mirrored sets. Assumes nothing.
--   Placed F n k bits    what the lexicographic rank of the word with these bits needs, and is
--   placed    so it is for a word over n
--   At F n k r    what the word of lexicographic rank r needs, and is
--   at_place    so it is for a rank below the count
use mathlib.Core.Path.{◌≡◌, refl, sym, ap, subst, ◌∙◌}
use mathlib.Core.List.{List}
use Prim.Native.Nat.{ℕ, suc, ◌-◌, ◌^◌, ◌≤◌, ◌<◌}
use native.Mathlib.Omega.{arith}
use lib.ListN.{length}
use Rattle.pascal.specs.Row.{entry}
use Rattle.pascal.proofs.Row.{entry_is_choose}
use Rattle.words.specs.declared.Family.{Family}
use Rattle.words.specs.declared.Family.TheVariants.{Forbidden}
use Rattle.words.specs.Word.{Monotone, Word, shifted, unshifted, shifted_alphabet, count}
use Rattle.words.specs.Rank.{rank_of}
use Rattle.words.specs.Unrank.{unrank_of}
use Rattle.words.specs.Bits.{bits_of, set_bits}
use Rattle.words.proofs.Unrank.{unrank_is_a_word, unrank_monotone}
use Rattle.words.proofs.Bits.{bits_fit, bits_of_set, set_of_bits, set-bits-monotone}
use Rattle.words.proofs.Shifted.{rank-shifted, shifted-unshifted, unshifted-shifted, word-shifted, shifted_unrank}
use Rattle.lexicographic.specs.Order.{mirror, lex_rank, lex_unrank}
use Rattle.lexicographic.proofs.Mirror.{mirror-shifted}
use Rattle.lexicographic.proofs.Rank.{lex_rank_sum}

pub record Placed (F : Family) (n k bits a : ℕ) : Type 0 where
  pub fits : bits < 2 ^ a
  pub rank : (m : ℕ) → set_bits m ≡ mirror a (set_bits bits) → rank_of Forbidden (set_bits m) ≡ rank_of F (mirror n (unshifted F (set_bits bits)))
  pub sum : suc (rank_of F (mirror n (unshifted F (set_bits bits)))) ≤ entry a k
  pub is : entry a k - 1 - rank_of F (mirror n (unshifted F (set_bits bits))) ≡ lex_rank F n (unshifted F (set_bits bits))

placed_at : (F : Family) (n k bits : ℕ) → Word F n k (unshifted F (set_bits bits)) → Placed F n k bits (shifted_alphabet F n k)
placed_at F n k bits h =
    let a : ℕ = shifted_alphabet F n k in
    let w : List ℕ = unshifted F (set_bits bits) in
    let e : shifted F w ≡ set_bits bits = shifted-unshifted F (set_bits bits) (set-bits-monotone bits) in
    let l : Word Forbidden a k (set_bits bits) = subst (Word Forbidden a k) e ((word-shifted F n k w).0 h) in
    let m : mirror a (set_bits bits) ≡ shifted F (mirror n w) = ap (mirror a) (sym e) ∙ sym (mirror-shifted F n k w h) in
    record {
      fits = subst (λ (b : ℕ). b < 2 ^ a) (bits_of_set bits) (bits_fit a (set_bits bits) l.monotone l.below);
      rank = λ x p. ap (rank_of Forbidden) (p ∙ m) ∙ sym (rank-shifted F (mirror n w));
      sum = omega (arith, lex_rank_sum F n k w h, entry_is_choose a k);
      is = omega (arith, lex_rank_sum F n k w h, entry_is_choose a k);
    }

pub placed : (F : Family) (n k bits a : ℕ) → a ≡ shifted_alphabet F n k → Word F n k (unshifted F (set_bits bits)) → Placed F n k bits a
placed F n k bits a e h = subst (Placed F n k bits) (sym e) (placed_at F n k bits h)

pub record At (F : Family) (n k r a : ℕ) : Type 0 where
  pub some : suc r ≤ entry a k
  pub column : entry a k - 1 - r < entry a k
  pub fits : (b : ℕ) → b ≡ bits_of (unrank_of Forbidden k (entry a k - 1 - r)) → b < 2 ^ a
  pub word : (b m : ℕ) → b ≡ bits_of (unrank_of Forbidden k (entry a k - 1 - r)) → set_bits m ≡ mirror a (set_bits b)
      → unshifted F (set_bits m) ≡ lex_unrank F n k r

at_shifted : (F : Family) (n k r : ℕ) → r < count F n k → At F n k r (shifted_alphabet F n k)
at_shifted F n k r l =
    let a : ℕ = shifted_alphabet F n k in
    let q : ℕ = entry a k - 1 - r in
    let e : q ≡ count F n k - suc r = omega (arith, entry_is_choose a k) in
    let b : q < count F n k = omega (arith, entry_is_choose a k) in
    let v : List ℕ = unrank_of F k q in
    let d : Word F n k v = unrank_is_a_word F n k q b in
    let g : Word Forbidden a k (unrank_of Forbidden k q) = unrank_is_a_word Forbidden a k q b in
    record {
      some = omega (arith, entry_is_choose a k);
      column = omega (arith, entry_is_choose a k);
      fits = λ x p. subst (λ (y : ℕ). y < 2 ^ a) (sym p) (bits_fit a (unrank_of Forbidden k q) g.monotone g.below);
      word = λ x m p s.
          ap (unshifted F) (s ∙ ap (λ (y : ℕ). mirror a (set_bits y)) p ∙ ap (mirror a) (set_of_bits (unrank_of Forbidden k q) g.monotone ∙ sym (shifted_unrank F n k q b)) ∙ sym (mirror-shifted F n k v d))
          ∙ unshifted-shifted F (mirror n v)
          ∙ ap (λ (y : ℕ). mirror n (unrank_of F k y)) e;
    }

pub at_place : (F : Family) (n k r a : ℕ) → a ≡ shifted_alphabet F n k → r < count F n k → At F n k r a
at_place F n k r a e l = subst (At F n k r) (sym e) (at_shifted F n k r l)
