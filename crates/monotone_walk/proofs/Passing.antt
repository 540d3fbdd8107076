-- The next index and one step of a walk, in the definitions: the refusals that a call passes on are its own. Assumes nothing.
--   moved x b    the index of the bits b, over the alphabet of x
--   Following x b    b is the next set of as many numbers as x has: 0 where there is none, otherwise the bits of the next index, if they stay below the shifted alphabet
--   following    so it is
--   next_accepted, next_at_once    an index whose next set stays below its shifted alphabet is accepted: one test serves for both
--   step_nowhere, step_refused, step_last, step_on    one step of a walk, by the code's verdict of its current index
use Rattle.std.specs.Prelude.{Result, Ok, Err, Option, Some, None, ok_or}
use Rattle.std.specs.Result.{result_ok}
use mathlib.Core.Path.{◌≡◌, refl, sym, ap, subst, ◌∙◌}
use mathlib.Core.Bool.{Bool, true, false}
use mathlib.Core.List.{List, [], ◌∷◌}
use Prim.Native.Nat.{ℕ, zero, suc, ◌-◌, ◌^◌, ◌≤◌, ◌<◌}
use native.Mathlib.Nat.{zero-lt-suc}
use native.Mathlib.Decide.{dec_le}
use native.Mathlib.Omega.{arith}
use borrow.Author.Tests.{ltb-false, eqb-true, eqb-false, eq-eqb, ne_eqb}
use lib.Dec.{ltb, eqb}
use lib.Pow.{pow_pos, pow_mono}
use lib.ListN.{length}
use Rattle.words.specs.declared.Family.TheVariants.{Forbidden}
use Rattle.words.specs.Pick.{pick}
use Rattle.words.specs.Word.{Word, shifted, shifted_alphabet}
use Rattle.words.specs.Next.{next}
use Rattle.words.specs.Bits.{bits_of, set_bits}
use Rattle.words.proofs.Next.{next_long, next_monotone, next_is_later}
use Rattle.words.proofs.Bits.{bits_fit, below_of_bits, bits_of_set, set-bits-monotone, colex_is_order_of_numbers}
use Rattle.words.proofs.Shifted.{word-shifted, shifted_next}
use Rattle.answers.specs.declared.Index.{Index}
use Rattle.answers.specs.declared.Refusal.{Refusal}
use Rattle.answers.specs.declared.Refusal.TheVariants.{Last}
use Rattle.answers.specs.Says.{Says, refuses_with, refuses, gives, refused_if, number_of, carried_by, answer_says}
use Rattle.answers.specs.Terms.{index_of, word_of}
use Rattle.answers.proofs.Terms.{word_of_index, word_long, word-monotone, shifted-word}
use Rattle.bits.specs.Member.{reaches}
use Rattle.bits.proofs.Member.{reaches_not}
use Rattle.taking.specs.Taken.{shifted_alphabet_of, Accepted, verdict_of}
use Rattle.taking.proofs.Accepted.{below_is_shifted, outside_is_reaches, taken-accepted, took, verdict_accepted}
use Rattle.seam.specs.Later.{following as following_of}
use Rattle.successor.specs.Later.{later}
use Rattle.monotone_walk.specs.Rules.{next_says, successor_says}
use Rattle.monotone_walk.specs.Walks.{current, step_from}

pos_of_ne : (a b : ℕ) → (b ≡ 0 → ⊥) → a ≡ b → 0 < a
pos_of_ne zero b h e = absurd (h (sym e))
pos_of_ne (suc a) b h e = zero-lt-suc a

none : {a : ℕ} (t : Bool) → a ≡ 0 → pick t a 0 ≡ 0
none true e = e
none false e = refl

-- as a set, the next word is the next set
next_bits_lem : (x : Index) → bits_of (shifted x.family (next x.family (word_of x))) ≡ following_of x.bits
next_bits_lem x = ap bits_of (shifted_next x.family (word_of x) (word-monotone x) ∙ ap (next Forbidden) (shifted-word x))

some_bits : (w : List ℕ) → 0 < length w → 0 < bits_of w
unfolding bits_of
some_bits [] h = absurd (omega arith)
some_bits (x ∷ xs) h = omega (arith, pow_pos x)

no_bits : (w : List ℕ) → length w ≡ 0 → bits_of w ≡ 0
unfolding bits_of
no_bits [] h = refl
no_bits (x ∷ xs) h = absurd (omega arith)

-- as many numbers as the word has symbols
next_set_long : (x : Index) → length (next Forbidden (set_bits x.bits)) ≡ length (word_of x)
next_set_long x = next_long Forbidden (set_bits x.bits) ∙ sym (word_long x)

-- the index of the next set, over the same alphabet
abbrev pub moved : Index → ℕ → Index
moved x b = record { family = x.family; alphabet = x.alphabet; bits = b }

pub record Following (x : Index) (b : ℕ) : Type 0 where
  pub last : b ≡ 0 → refuses 4 ≡ next_says x
  pub past : (b ≡ 0 → ⊥) → reaches (shifted_alphabet_of x) (set_bits b) ≡ true → refuses 4 ≡ next_says x
  pub more : (b ≡ 0 → ⊥) → reaches (shifted_alphabet_of x) (set_bits b) ≡ false → gives (moved x b) ≡ next_says x

-- a next set past 64 digits has a symbol past the alphabet
past-alphabet : (x : Index) → Accepted x → 2 ^ 64 ≤ following_of x.bits → reaches x.alphabet (next x.family (word_of x)) ≡ true
past-alphabet x a h = go (reaches x.alphabet (next x.family (word_of x))) refl
  where
    go : (t : Bool) → reaches x.alphabet (next x.family (word_of x)) ≡ t → t ≡ true
    go true e = refl
    go false e =
        let k : ℕ = length (word_of x) in
        let w : Word Forbidden (shifted_alphabet x.family x.alphabet k) k (shifted x.family (next x.family (word_of x))) =
        (word-shifted x.family x.alphabet k (next x.family (word_of x))).0
        (record { long = next_long x.family (word_of x); monotone = next_monotone x.family (word_of x) (word-monotone x); below = (reaches_not x.alphabet (next x.family (word_of x))).0 e }) in
        let l : bits_of (shifted x.family (next x.family (word_of x))) < 2 ^ shifted_alphabet x.family x.alphabet k =
        bits_fit (shifted_alphabet x.family x.alphabet k) (shifted x.family (next x.family (word_of x))) w.monotone w.below in
        absurd (omega (arith, h, next_bits_lem x, l, pow_mono a.narrow))

pub following : (x : Index) (b : ℕ) → Accepted x → b ≡ later x.bits → Following x b
following x b a e = go (eqb (length (word_of x)) 0) refl (ltb (following_of x.bits) (2 ^ 64)) refl
  where
    is : (t : Bool) → ltb (following_of x.bits) (2 ^ 64) ≡ t → b ≡ pick t (following_of x.bits) 0
    is t q = e ∙ ap (λ (s : Bool). pick s (following_of x.bits) 0) q

    some : eqb (length (word_of x)) 0 ≡ false → 0 < following_of x.bits
    some p = some_bits (next Forbidden (set_bits x.bits)) (pos_of_ne (length (next Forbidden (set_bits x.bits))) (length (word_of x)) (eqb-false (length (word_of x)) 0 p) (next_set_long x))

    go : (s : Bool) → eqb (length (word_of x)) 0 ≡ s → (t : Bool) → ltb (following_of x.bits) (2 ^ 64) ≡ t → Following x b
    go true p t q =
        let z : b ≡ 0 = is t q ∙ none t (no_bits (next Forbidden (set_bits x.bits)) (next_set_long x ∙ eqb-true (length (word_of x)) 0 p)) in
        record { last = λ n. simp p; past = λ n o. absurd (n z); more = λ n o. absurd (n z) }
    go false p true q =
        let u : b ≡ bits_of (shifted x.family (next x.family (word_of x))) = is true q ∙ sym (next_bits_lem x) in
        let i : moved x b ≡ index_of x.family x.alphabet (next x.family (word_of x)) = ap (moved x) u in
        let w : word_of (moved x b) ≡ next x.family (word_of x) =
        ap word_of i ∙ word_of_index x.family x.alphabet (next x.family (word_of x)) (next_monotone x.family (word_of x) (word-monotone x)) in
        let o : reaches (shifted_alphabet_of x) (set_bits b) ≡ reaches x.alphabet (next x.family (word_of x)) =
        outside_is_reaches (moved x b) x.alphabet (length (word_of x)) (ap length w ∙ next_long x.family (word_of x)) ∙ ap (reaches x.alphabet) w in
        record {
          last = λ n. absurd (omega (arith, n, is true q, some p));
          past = λ n y. simp (p, sym o ∙ y);
          more = λ n y. simp (p, sym o ∙ y, u);
        }
    go false p false q =
        let m : reaches x.alphabet (next x.family (word_of x)) ≡ true = past-alphabet x a (ltb-false (following_of x.bits) (2 ^ 64) q) in
        record { last = λ n. simp (p, m); past = λ n o. absurd (n (is false q)); more = λ n o. absurd (n (is false q)) }

-- a set is smaller than the one that follows it
before_following : (a : ℕ) → (following_of a ≡ 0 → ⊥) → a < following_of a
before_following a h = go (dec_le 1 (length (set_bits a)))
  where
    go : Dec (1 ≤ length (set_bits a)) → a < following_of a
    go (yes l) =
        subst (λ (b : ℕ). b < following_of a) (bits_of_set a)
        ((colex_is_order_of_numbers (set_bits a) (next Forbidden (set_bits a)) (set-bits-monotone a) (next_monotone Forbidden (set_bits a) (set-bits-monotone a))
        (sym (next_long Forbidden (set_bits a)))).0 (next_is_later Forbidden (set_bits a) l (set-bits-monotone a)))
    go (no l) = absurd (h (no_bits (next Forbidden (set_bits a)) (next_long Forbidden (set_bits a) ∙ omega arith)))

-- where the next set stays below the shifted alphabet, so does the set itself
pub next_accepted : (x : Index) (b : ℕ) → b ≡ later x.bits → (b ≡ 0 → ⊥) → shifted_alphabet_of x ≤ 64 → reaches (shifted_alphabet_of x) (set_bits b) ≡ false → Accepted x
next_accepted x b e h l r = record { narrow = l; over = (below_is_shifted x x.alphabet (length (word_of x)) refl).1 (below_of_bits (shifted_alphabet_of x) (set_bits x.bits) low) }
  where
    is : (t : Bool) → ltb (following_of x.bits) (2 ^ 64) ≡ t → b ≡ following_of x.bits
    is true q = e ∙ ap (λ (s : Bool). pick s (following_of x.bits) 0) q
    is false q = absurd (h (e ∙ ap (λ (s : Bool). pick s (following_of x.bits) 0) q))

    low : bits_of (set_bits x.bits) < 2 ^ shifted_alphabet_of x
    low =
        let f : b ≡ following_of x.bits = is (ltb (following_of x.bits) (2 ^ 64)) refl in
        let u : x.bits < following_of x.bits = before_following x.bits (λ z. h (f ∙ z)) in
        let v : bits_of (set_bits b) < 2 ^ shifted_alphabet_of x = bits_fit (shifted_alphabet_of x) (set_bits b) (set-bits-monotone b) ((reaches_not (shifted_alphabet_of x) (set_bits b)).0 r) in
        omega (arith, u, v, f, bits_of_set b, bits_of_set x.bits)

pub next_at_once : (x : Index) (b t : ℕ) → b ≡ later x.bits → (b ≡ 0 → ⊥) → t ≡ shifted_alphabet_of x → t ≤ 64 → reaches t (set_bits b) ≡ false → gives (moved x b) ≡ successor_says x
next_at_once x b t e h f l r =
    let u : reaches (shifted_alphabet_of x) (set_bits b) ≡ false = ap (λ (a : ℕ). reaches a (set_bits b)) (sym f) ∙ r in
    let a : Accepted x = next_accepted x b e h (omega (arith, l, f)) u in
    (following x b a e).more h u ∙ sym (taken-accepted x (next_says x) a)

pub step_nowhere : (o : Option Index) (n : ℕ) (r : Result Index Refusal) (e : Refusal) → r ≡ ok_or o Last → r ≡ Err e → refuses_with (number_of e) (carried_by e) ≡ step_from o n
step_nowhere None n r e f g = ap (λ (z : Refusal). refuses_with (number_of z) (carried_by z)) (let h : e ≡ Last = grind (arith, f, g) in h)
step_nowhere (Some x) n r e f g = grind (arith, f, g)

-- where a walk stands after an index: what the next one is, if it is one
current_ok : (r : Result Index Refusal) → current (answer_says r) ≡ result_ok r
current_ok (Ok x) = refl
current_ok (Err e) = refl

pub step_refused : (x : Index) (n : ℕ) (v : Result Unit Refusal) (e : Refusal) → v ≡ verdict_of x → v ≡ Err e → refuses_with (number_of e) (carried_by e) ≡ step_from (Some x) n
step_refused x n v e f g =
    took x (refused_if (eqb n 0) 4 (gives (record { index = x; state = record { current = current (successor_says x); remaining = n - 1 } }))) v (Err e) f g

pub step_last : (x : Index) (n : ℕ) (v : Result Unit Refusal) (w : Unit {0}) → v ≡ verdict_of x → v ≡ Ok w → n ≡ 0 → refuses 4 ≡ step_from (Some x) n
step_last x n v w f g z =
    ap (λ t. refused_if t 4 (gives (record { index = x; state = record { current = current (successor_says x); remaining = n - 1 } }))) (sym (eq-eqb n 0 z))
    ∙ took x (refused_if (eqb n 0) 4 (gives (record { index = x; state = record { current = current (successor_says x); remaining = n - 1 } }))) v (Ok w) f g

pub step_on : (x : Index) (n : ℕ) (v : Result Unit Refusal) (w : Unit {0}) (r : Result Index Refusal) (o : Option Index)
    → v ≡ verdict_of x → v ≡ Ok w → (n ≡ 0 → ⊥) → answer_says r ≡ next_says x → o ≡ result_ok r
    → gives (record { index = x; state = record { current = o; remaining = n - 1 } }) ≡ step_from (Some x) n
step_on x n v w r o f g z e h =
    ap (λ (p : Option Index). gives (record { index = x; state = record { current = p; remaining = n - 1 } })) (h ∙ sym (current_ok r))
    ∙ ap (λ (s : Says Index). gives (record { index = x; state = record { current = current s; remaining = n - 1 } })) (e ∙ sym (taken-accepted x (next_says x) (verdict_accepted x v w f g)))
    ∙ ap (λ t. refused_if t 4 (gives (record { index = x; state = record { current = current (successor_says x); remaining = n - 1 } }))) (sym (ne_eqb n 0 z))
    ∙ took x (refused_if (eqb n 0) 4 (gives (record { index = x; state = record { current = current (successor_says x); remaining = n - 1 } }))) v (Ok w) f g
