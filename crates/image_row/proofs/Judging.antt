-- Each way through a row, as the code meets its fields. Assumes nothing.
--   family_some    every byte but 0 stands for Allowed
--   width_read    the width that the code tests is that of what is read
--   body-..    through the offset and the number of entries
--   words-..    through the alphabet and the zero byte
--   head-..    through the family and the degree
use mathlib.Core.Path.{◌≡◌, refl, sym, ap, ◌∙◌}
use mathlib.Core.Bool.{Bool, true, false}
use mathlib.Core.List.{List}
use Prim.Native.Nat.{ℕ, zero, suc, ◌+◌, ◌*◌, ◌≤◌, ◌<◌}
use native.Mathlib.Omega.{arith}
use borrow.Author.Tests.{lt-ltb, le-ltb, le-leb, lt-leb, eq-eqb, ne_eqb}
use lib.ListN.{get_or}
use lib.Dec.{ltb}
use Rattle.words.specs.declared.Family.{Family}
use Rattle.words.specs.declared.Family.TheVariants.{Allowed}
use Rattle.words.specs.Word.{shifted_alphabet, count}
use Rattle.answers.specs.Says.{Says, refuses_at}
use Rattle.little_endian.specs.Bytes.{number_at}
use Rattle.image_rules.specs.Image.{family_of_byte, fields_at, judged}
use Rattle.image_row.specs.Steps.{body_fields, words_fields}

pub family_some : (b : ℕ) → (b ≡ 0 → ⊥) → family_of_byte b ≡ Allowed
family_some zero h = absurd (h refl)
family_some (suc b) h = refl

pub width_read : (F : Family) (f n m k : ℕ) (t b : Bool) → F ≡ family_of_byte f → n ≡ m → t ≡ ltb 64 (shifted_alphabet F n k) → t ≡ b
    → ltb 64 (shifted_alphabet (family_of_byte f) m k) ≡ b
width_read F f n m k t b p q r s =
    ap (λ (G : Family). ltb 64 (shifted_alphabet G m k)) (sym p) ∙ ap (λ (j : ℕ). ltb 64 (shifted_alphabet F j k)) (sym q) ∙ sym r ∙ s

-- ---- the offset and the number of entries

module _ {A : Type 0} (l : List ℕ) (size at place words : ℕ) (s : Says A) where
  pub body-short : size < at + 8 → refuses_at 11 size ≡ judged size (body_fields l at place words) s
  unfolding judged
  body-short h = simp (lt-ltb size (at + 4 + 4) (omega arith))

  pub body-offset : at + 8 ≤ size → (number_at l (at + 4) 4 ≡ place → ⊥) → refuses_at 11 (at + 4) ≡ judged size (body_fields l at place words) s
  unfolding judged
  body-offset h e = simp (le-ltb size (at + 4 + 4) (omega arith), ne_eqb (number_at l (at + 4) 4) place e)

  pub body-cut : at + 8 ≤ size → number_at l (at + 4) 4 ≡ place → size < at + 12 → refuses_at 11 size ≡ judged size (body_fields l at place words) s
  unfolding judged
  body-cut h e g = simp (le-ltb size (at + 4 + 4) (omega arith), eq-eqb (number_at l (at + 4) 4) place e, lt-ltb size (at + 8 + 4) (omega arith))

  pub body-words : at + 12 ≤ size → number_at l (at + 4) 4 ≡ place → (number_at l (at + 8) 4 ≡ words → ⊥) → refuses_at 11 (at + 8) ≡ judged size (body_fields l at place words) s
  unfolding judged
  body-words h e n = simp (le-ltb size (at + 4 + 4) (omega arith), eq-eqb (number_at l (at + 4) 4) place e, le-ltb size (at + 8 + 4) (omega arith), ne_eqb (number_at l (at + 8) 4) words n)

  pub body-none : at + 12 ≤ size → number_at l (at + 4) 4 ≡ place → number_at l (at + 8) 4 ≡ words → number_at l (at + 8) 4 ≡ 0 → refuses_at 11 (at + 8) ≡ judged size (body_fields l at place words) s
  unfolding judged
  body-none h e n z =
      simp (le-ltb size (at + 4 + 4) (omega arith), eq-eqb (number_at l (at + 4) 4) place e, le-ltb size (at + 8 + 4) (omega arith), eq-eqb (number_at l (at + 8) 4) words n, le-ltb 0 (number_at l (at + 8) 4) (omega arith))

  pub body-long : at + 12 ≤ size → number_at l (at + 4) 4 ≡ place → number_at l (at + 8) 4 ≡ words → (number_at l (at + 8) 4 ≡ 0 → ⊥) → 65536 < place + 8 * number_at l (at + 8) 4
      → refuses_at 11 (at + 8) ≡ judged size (body_fields l at place words) s
  unfolding judged
  body-long h e n z g =
      simp (le-ltb size (at + 4 + 4) (omega arith), eq-eqb (number_at l (at + 4) 4) place e, le-ltb size (at + 8 + 4) (omega arith), eq-eqb (number_at l (at + 8) 4) words n, lt-ltb 0 (number_at l (at + 8) 4) (omega arith), lt-leb (place + 8 * number_at l (at + 8) 4) 65536 g)

  pub body-good : at + 12 ≤ size → number_at l (at + 4) 4 ≡ place → number_at l (at + 8) 4 ≡ words → (number_at l (at + 8) 4 ≡ 0 → ⊥) → place + 8 * number_at l (at + 8) 4 ≤ 65536
      → s ≡ judged size (body_fields l at place words) s
  unfolding judged
  body-good h e n z g =
      simp (le-ltb size (at + 4 + 4) (omega arith), eq-eqb (number_at l (at + 4) 4) place e, le-ltb size (at + 8 + 4) (omega arith), eq-eqb (number_at l (at + 8) 4) words n, lt-ltb 0 (number_at l (at + 8) 4) (omega arith), le-leb (place + 8 * number_at l (at + 8) 4) 65536 g)

-- ---- the alphabet and the zero byte

module _ {A : Type 0} (l : List ℕ) (size at place f k : ℕ) (s : Says A) where
  pub words-short : size < at + 3 → refuses_at 11 size ≡ judged size (words_fields l at place f k) s
  unfolding judged
  words-short h = simp (lt-ltb size (at + 2 + 1) (omega arith))

  pub words-wide : at + 3 ≤ size → 64 < shifted_alphabet (family_of_byte f) (get_or l (at + 2) 0) k → refuses_at 11 (at + 2) ≡ judged size (words_fields l at place f k) s
  unfolding judged
  words-wide h g = simp (le-ltb size (at + 2 + 1) (omega arith), lt-leb (shifted_alphabet (family_of_byte f) (get_or l (at + 2) 0) k) 64 g)

  pub words-cut : at + 3 ≤ size → shifted_alphabet (family_of_byte f) (get_or l (at + 2) 0) k ≤ 64 → size < at + 4 → refuses_at 11 size ≡ judged size (words_fields l at place f k) s
  unfolding judged
  words-cut h g e = simp (le-ltb size (at + 2 + 1) (omega arith), le-leb (shifted_alphabet (family_of_byte f) (get_or l (at + 2) 0) k) 64 g, lt-ltb size (at + 3 + 1) (omega arith))

  pub words-zero : at + 4 ≤ size → shifted_alphabet (family_of_byte f) (get_or l (at + 2) 0) k ≤ 64 → (get_or l (at + 3) 0 ≡ 0 → ⊥) → refuses_at 11 (at + 3) ≡ judged size (words_fields l at place f k) s
  unfolding judged
  words-zero h g e = simp (le-ltb size (at + 2 + 1) (omega arith), le-leb (shifted_alphabet (family_of_byte f) (get_or l (at + 2) 0) k) 64 g, le-ltb size (at + 3 + 1) (omega arith), ne_eqb (get_or l (at + 3) 0) 0 e)

  pub words-good : at + 4 ≤ size → shifted_alphabet (family_of_byte f) (get_or l (at + 2) 0) k ≤ 64 → get_or l (at + 3) 0 ≡ 0
      → judged size (body_fields l at place (count (family_of_byte f) (get_or l (at + 2) 0) k)) s ≡ judged size (words_fields l at place f k) s
  unfolding judged
  words-good h g e = simp (le-ltb size (at + 2 + 1) (omega arith), le-leb (shifted_alphabet (family_of_byte f) (get_or l (at + 2) 0) k) 64 g, le-ltb size (at + 3 + 1) (omega arith), eq-eqb (get_or l (at + 3) 0) 0 e)

-- ---- the family and the degree

module _ {A : Type 0} (l : List ℕ) (size at place : ℕ) (used : ℕ → ℕ → Bool) (s : Says A) where
  pub head-short : size < at + 1 → refuses_at 11 size ≡ judged size (fields_at l at place used) s
  unfolding judged
  head-short h = simp (lt-ltb size (at + 1) h)

  pub head-family : at + 1 ≤ size → 2 ≤ get_or l at 0 → refuses_at 11 at ≡ judged size (fields_at l at place used) s
  unfolding judged
  head-family h g = simp (le-ltb size (at + 1) h, le-ltb (get_or l at 0) 2 g)

  pub head-cut : at + 1 ≤ size → get_or l at 0 < 2 → size < at + 2 → refuses_at 11 size ≡ judged size (fields_at l at place used) s
  unfolding judged
  head-cut h g e = simp (le-ltb size (at + 1) h, lt-ltb (get_or l at 0) 2 g, lt-ltb size (at + 1 + 1) (omega arith))

  pub head-degree : at + 2 ≤ size → get_or l at 0 < 2 → 64 < get_or l (at + 1) 0 → refuses_at 11 (at + 1) ≡ judged size (fields_at l at place used) s
  unfolding judged
  head-degree h g e = simp (le-ltb size (at + 1) (omega arith), lt-ltb (get_or l at 0) 2 g, le-ltb size (at + 1 + 1) (omega arith), lt-leb (get_or l (at + 1) 0) 64 e)

  pub head-again : at + 2 ≤ size → get_or l at 0 < 2 → get_or l (at + 1) 0 ≤ 64 → used (get_or l at 0) (get_or l (at + 1) 0) ≡ true → refuses_at 11 (at + 1) ≡ judged size (fields_at l at place used) s
  unfolding judged
  head-again h g e u = simp (le-ltb size (at + 1) (omega arith), lt-ltb (get_or l at 0) 2 g, le-ltb size (at + 1 + 1) (omega arith), le-leb (get_or l (at + 1) 0) 64 e, u)

  pub head-good : at + 2 ≤ size → get_or l at 0 < 2 → get_or l (at + 1) 0 ≤ 64 → used (get_or l at 0) (get_or l (at + 1) 0) ≡ false
      → judged size (words_fields l at place (get_or l at 0) (get_or l (at + 1) 0)) s ≡ judged size (fields_at l at place used) s
  unfolding judged
  head-good h g e u = simp (le-ltb size (at + 1) (omega arith), lt-ltb (get_or l at 0) 2 g, le-ltb size (at + 1 + 1) (omega arith), le-leb (get_or l (at + 1) 0) 64 e, u)
