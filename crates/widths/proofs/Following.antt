-- The next term of a set, over the width w. Assumes nothing.
--   Follows w F a b    where b, the later set in w digits, is 0, there is no next term, and otherwise it is the set of the next term
--   follows    so it is
use mathlib.Core.Path.{◌≡◌, refl, sym, ap, ◌∙◌}
use mathlib.Core.Bool.{Bool, true, false}
use mathlib.Core.List.{List, [], ◌∷◌}
use Prim.Native.Nat.{ℕ, zero, suc, ◌+◌, ◌^◌, ◌<◌}
use native.Mathlib.Nat.{zero-lt-suc}
use native.Mathlib.Omega.{arith}
use borrow.Author.Tests.{ltb-true, ltb-false, lt-leb, le-leb, eqb-true, eqb-false}
use lib.Dec.{leb, ltb, eqb}
use lib.ListN.{length}
use lib.Pow.{pow_pos}
use Rattle.words.specs.declared.Family.{Family}
use Rattle.words.specs.declared.Family.TheVariants.{Forbidden}
use Rattle.words.specs.Pick.{pick}
use Rattle.words.specs.Next.{next}
use Rattle.words.specs.Bits.{bits_of, set_bits}
use Rattle.words.proofs.Next.{next_long}
use Rattle.words.proofs.Shifted.{shifted_next}
use Rattle.answers.specs.Says.{Says, refuses, gives}
use Rattle.seam.specs.Later.{following, later_in}
use Rattle.widths.specs.Rules.{word_in, next_bits, successor_in}
use Rattle.widths.proofs.Terms.{word_in_long, word_in_monotone, shifted_word_in}

pos_of_ne : (a b : ℕ) → (b ≡ 0 → ⊥) → a ≡ b → 0 < a
pos_of_ne zero b h e = absurd (h (sym e))
pos_of_ne (suc a) b h e = zero-lt-suc a

none : {a : ℕ} (t : Bool) → a ≡ 0 → pick t a 0 ≡ 0
none true e = e
none false e = refl

next_bits_lem : (F : Family) (a : ℕ) → next_bits F a ≡ following a
next_bits_lem F a = ap bits_of (shifted_next F (word_in F a) (word_in_monotone F a) ∙ ap (next Forbidden) (shifted_word_in F a))

some_bits : (w : List ℕ) → 0 < length w → 0 < bits_of w
unfolding bits_of
some_bits [] h = absurd (omega arith)
some_bits (x ∷ xs) h = omega (arith, pow_pos x)

no_bits : (w : List ℕ) → length w ≡ 0 → bits_of w ≡ 0
unfolding bits_of
no_bits [] h = refl
no_bits (x ∷ xs) h = absurd (omega arith)

next_set_long : (F : Family) (a : ℕ) → length (next Forbidden (set_bits a)) ≡ length (word_in F a)
next_set_long F a = next_long Forbidden (set_bits a) ∙ sym (word_in_long F a)

pub record Follows (w : ℕ) (F : Family) (a b : ℕ) : Type 0 where
  pub last : eqb b 0 ≡ true → successor_in w F a ≡ refuses 4
  pub more : eqb b 0 ≡ false → successor_in w F a ≡ gives b

pub follows : (w : ℕ) (F : Family) (a b : ℕ) → b ≡ later_in w a → Follows w F a b
follows w F a b e = go (eqb (length (word_in F a)) 0) refl (ltb (following a) (2 ^ w)) refl
  where
    is : (t : Bool) → ltb (following a) (2 ^ w) ≡ t → b ≡ pick t (following a) 0
    is t q = e ∙ ap (λ (s : Bool). pick s (following a) 0) q

    some : eqb (length (word_in F a)) 0 ≡ false → 0 < following a
    some p = some_bits (next Forbidden (set_bits a)) (pos_of_ne (length (next Forbidden (set_bits a))) (length (word_in F a)) (eqb-false (length (word_in F a)) 0 p) (next_set_long F a))

    go : (s : Bool) → eqb (length (word_in F a)) 0 ≡ s → (t : Bool) → ltb (following a) (2 ^ w) ≡ t → Follows w F a b
    go true p t q =
        let z : b ≡ 0 = is t q ∙ none t (no_bits (next Forbidden (set_bits a)) (next_set_long F a ∙ eqb-true (length (word_in F a)) 0 p)) in
        record { last = λ n. simp p; more = λ n. absurd (eqb-false b 0 n z) }
    go false p true q =
        let l : following a < 2 ^ w = ltb-true (following a) (2 ^ w) q in
        let u : next_bits F a ≡ b = next_bits_lem F a ∙ sym (is true q) in
        let m : leb (2 ^ w) (next_bits F a) ≡ false = lt-leb (2 ^ w) (next_bits F a) (omega (arith, next_bits_lem F a)) in
        record { last = λ n. absurd (omega (arith, eqb-true b 0 n, is true q, some p)); more = λ n. simp (p, m) (ap gives u) }
    go false p false q =
        let m : leb (2 ^ w) (next_bits F a) ≡ true = le-leb (2 ^ w) (next_bits F a) (omega (arith, next_bits_lem F a, ltb-false (following a) (2 ^ w) q)) in
        record { last = λ n. simp (p, m); more = λ n. absurd (eqb-false b 0 n (is false q)) }
