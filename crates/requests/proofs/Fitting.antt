-- Words that are laid beside a pattern, letter by letter. Assumes nothing.
--   numbers_more, numbers_end, numbers-past    how many numbers stand from a place on: one more at a number, none at another word, none past the end
--   Lists m l    the letter l stands for a list of m numbers at most
--   short_list, long_list    so * does of 80, and W of 140
--   after-few, after-many    the place after a list, if it is not too long, and if it is
--   list-passed    so it is the place after the list that a letter stands for; a longer one fits nothing
--   word-passed, word-differs, word-missing    the same for a letter that stands for one word
--   no-letter-passed, letter-passed, letters_passed    how a pattern fits, at its beginning, one letter further, and at its end
use mathlib.Core.Bool.{Bool, true, false}
use mathlib.Core.Path.{◌≡◌, refl, sym, ap, ◌∙◌}
use mathlib.Core.Logic.{◌⊎◌, inl, inr, ⊎_elim}
use mathlib.Core.List.{List, [], ◌∷◌}
use Prim.Native.Nat.{ℕ, suc, ◌+◌, ◌≤◌, ◌<◌, suc-le-suc}
use native.Mathlib.Numerals.{add-one}
use native.Mathlib.Omega.{arith}
use lib.Dec.{eqb, ltb}
use lib.ListN.{length, drop, get_or, length-drop, drop_of_length-le}
use lib.Seq.{drop-cons, drop-drop}
use borrow.Author.Tests.{ltb-true, ltb-false, lt-ltb, le-ltb, eq-eqb, ne_eqb}
use Rattle.words.specs.Pick.{pick}
use Rattle.requests.specs.Patterns.{stands_for, numbers_in, fits_pattern, fits_from, after_list, After}

lt_or_ge : (a b : ℕ) → (a < b) ⊎ (b ≤ a)
lt_or_ge a b = go (ltb a b) refl
  where
    go : (t : Bool) → ltb a b ≡ t → (a < b) ⊎ (b ≤ a)
    go true e = inl (ltb-true a b e)
    go false e = inr (ltb-false a b e)

next_of : (ks : List ℕ) (i : ℕ) → i < length ks → drop i ks ≡ get_or ks i 0 ∷ drop (i + 1) ks
next_of ks i h = rw (add-one, drop-cons ks i 0)

pub numbers_more : (ks : List ℕ) (i : ℕ) → i < length ks → get_or ks i 0 ≡ 110 → numbers_in (drop i ks) ≡ suc (numbers_in (drop (i + 1) ks))
unfolding numbers_in
numbers_more ks i h e = ap numbers_in (next_of ks i h) ∙ simp (eq-eqb (get_or ks i 0) 110 e)

pub numbers_end : (ks : List ℕ) (i : ℕ) → i < length ks → (get_or ks i 0 ≡ 110 → ⊥) → numbers_in (drop i ks) ≡ 0
unfolding numbers_in
numbers_end ks i h e = ap numbers_in (next_of ks i h) ∙ simp (ne_eqb (get_or ks i 0) 110 e)

pub numbers-past : (ks : List ℕ) (i : ℕ) → length ks ≤ i → numbers_in (drop i ks) ≡ 0
unfolding numbers_in
numbers-past ks i h = ap numbers_in (drop_of_length-le ks h)

numbers_within : (ks : List ℕ) → numbers_in ks ≤ length ks
unfolding numbers_in
numbers_within [] = omega arith
numbers_within (k ∷ ks) = go (eqb k 110) (numbers_within ks)
  where
    go : (t : Bool) → numbers_in ks ≤ length ks → pick t (suc (numbers_in ks)) 0 ≤ suc (length ks)
    go true h = suc-le-suc h
    go false h = omega arith

abbrev pub Lists : ℕ → ℕ → Type 0
Lists m l = (p ks : List ℕ) → fits_pattern (l ∷ p) ks ≡ pick (ltb m (numbers_in ks)) false (fits_pattern p (drop (numbers_in ks) ks))

pub short_list : Lists 80 42
unfolding numbers_in fits_pattern
short_list p [] = refl
short_list p (k ∷ ks) = refl

pub long_list : Lists 140 87
unfolding numbers_in fits_pattern
long_list p [] = refl
long_list p (k ∷ ks) = refl

module _ (ks : List ℕ) (i : ℕ) where
  past : (p : List ℕ) → length ks < i → fits_from p ks i ≡ false
  past p h = simp (lt-ltb (length ks) i h)

  within : (p : List ℕ) → i ≤ length ks → fits_from p ks i ≡ fits_pattern p (drop i ks)
  within p h = simp (le-ltb (length ks) i h)

module _ (ks : List ℕ) (i : ℕ) where
  pub after-few : (m r : ℕ) → r ≡ i + numbers_in (drop i ks) → numbers_in (drop i ks) ≤ m → r ≡ after_list ks i m
  after-few m r e h = e ∙ sym (simp (le-ltb m (numbers_in (drop i ks)) h))

  pub after-many : (m : ℕ) → m < numbers_in (drop i ks) → length ks + 1 ≡ after_list ks i m
  after-many m h = sym (simp (lt-ltb m (numbers_in (drop i ks)) h))

  held : (m l : ℕ) → Lists m l → (r : ℕ) → r ≡ i + numbers_in (drop i ks) → numbers_in (drop i ks) ≤ m → After ks i l r
  held m l f r e h p = ⊎_elim beyond inside (lt_or_ge (length ks) i)
    where
      beyond : length ks < i → fits_from (l ∷ p) ks i ≡ fits_from p ks r
      beyond q = past ks i (l ∷ p) q ∙ sym (past ks r p (omega arith))

      inside : i ≤ length ks → fits_from (l ∷ p) ks i ≡ fits_from p ks r
      inside q =
          let n = numbers_in (drop i ks) in
          within ks i (l ∷ p) q ∙ f p (drop i ks) ∙ (simp (le-ltb m n h) (ap (fits_pattern p) (drop-drop n i ks ∙ ap (λ (k : ℕ). drop k ks) (sym e))))
          ∙ sym (within ks r p (omega (arith, numbers_within (drop i ks), length-drop i ks)))

  too_long_lem : (m l : ℕ) → Lists m l → (r : ℕ) → r ≡ length ks + 1 → m < numbers_in (drop i ks) → After ks i l r
  too_long_lem m l f r e h p =
      let q : i ≤ length ks = omega (arith, numbers_within (drop i ks), length-drop i ks) in
      within ks i (l ∷ p) q ∙ f p (drop i ks) ∙ (simp (lt-ltb m (numbers_in (drop i ks)) h)) ∙ sym (past ks r p (omega arith))

  pub list-passed : (m l : ℕ) → Lists m l → (r : ℕ) → r ≡ after_list ks i m → After ks i l r
  list-passed m l f r e = ⊎_elim long short (lt_or_ge m (numbers_in (drop i ks)))
    where
      long : m < numbers_in (drop i ks) → After ks i l r
      long h = too_long_lem m l f r (e ∙ simp (lt-ltb m (numbers_in (drop i ks)) h)) h

      short : numbers_in (drop i ks) ≤ m → After ks i l r
      short h = held m l f r (e ∙ simp (le-ltb m (numbers_in (drop i ks)) h)) h

  fits_word : (l : ℕ) (p : List ℕ) → (l ≡ 42 → ⊥) → (l ≡ 87 → ⊥) → i < length ks → fits_from (l ∷ p) ks i ≡ pick (stands_for (get_or ks i 0) l) (fits_pattern p (drop (i + 1) ks)) false
  unfolding fits_pattern
  fits_word l p d w h = within ks i (l ∷ p) (omega arith) ∙ ap (fits_pattern (l ∷ p)) (next_of ks i h) ∙ simp (ne_eqb l 42 d, ne_eqb l 87 w)

  pub word-passed : (l : ℕ) → (l ≡ 42 → ⊥) → (l ≡ 87 → ⊥) → i < length ks → stands_for (get_or ks i 0) l ≡ true → After ks i l (i + 1)
  word-passed l d w h e p =
      fits_word l p d w h ∙ ap (λ (t : Bool). pick t (fits_pattern p (drop (i + 1) ks)) false) e ∙ sym (within ks (i + 1) p (omega arith))

  pub word-differs : (l : ℕ) → (l ≡ 42 → ⊥) → (l ≡ 87 → ⊥) → i < length ks → stands_for (get_or ks i 0) l ≡ false → After ks i l (length ks + 1)
  word-differs l d w h e p =
      fits_word l p d w h ∙ ap (λ (t : Bool). pick t (fits_pattern p (drop (i + 1) ks)) false) e ∙ sym (past ks (length ks + 1) p (omega arith))

  pub word-missing : (l : ℕ) → (l ≡ 42 → ⊥) → (l ≡ 87 → ⊥) → length ks ≤ i → After ks i l (length ks + 1)
  unfolding fits_pattern
  word-missing l d w h p = ⊎_elim beyond at-end (lt_or_ge (length ks) i)
    where
      beyond : length ks < i → fits_from (l ∷ p) ks i ≡ fits_from p ks (length ks + 1)
      beyond q = past ks i (l ∷ p) q ∙ sym (past ks (length ks + 1) p (omega arith))

      at-end : i ≤ length ks → fits_from (l ∷ p) ks i ≡ fits_from p ks (length ks + 1)
      at-end q =
          within ks i (l ∷ p) q ∙ ap (fits_pattern (l ∷ p)) (drop_of_length-le ks h) ∙ (simp (ne_eqb l 42 d, ne_eqb l 87 w)) ∙ sym (past ks (length ks + 1) p (omega arith))

  all-passed : fits_from [] ks i ≡ eqb i (length ks)
  unfolding fits_pattern
  all-passed = ⊎_elim beyond inside (lt_or_ge (length ks) i)
    where
      beyond : length ks < i → fits_from [] ks i ≡ eqb i (length ks)
      beyond l = past ks i [] l ∙ sym (ne_eqb i (length ks) (λ e. omega arith))

      before : i < length ks → fits_from [] ks i ≡ eqb i (length ks)
      before l = within ks i [] (omega arith) ∙ ap (fits_pattern []) (next_of ks i l) ∙ sym (ne_eqb i (length ks) (λ e. omega arith))

      at-end : length ks ≤ i → i ≤ length ks → fits_from [] ks i ≡ eqb i (length ks)
      at-end h l = within ks i [] l ∙ ap (fits_pattern []) (drop_of_length-le ks h) ∙ sym (eq-eqb i (length ks) (omega arith))

      inside : i ≤ length ks → fits_from [] ks i ≡ eqb i (length ks)
      inside l = ⊎_elim before (λ h. at-end h l) (lt_or_ge i (length ks))

-- ---- from letter to letter

module _ (pattern ks : List ℕ) where
  pub no-letter-passed : fits_pattern pattern ks ≡ fits_from pattern ks 0
  no-letter-passed = sym (within ks 0 pattern (omega arith))

  pub letter-passed : (i j r : ℕ) → fits_pattern pattern ks ≡ fits_from (drop j pattern) ks i → j < length pattern → After ks i (get_or pattern j 0) r
      → fits_pattern pattern ks ≡ fits_from (drop (j + 1) pattern) ks r
  letter-passed i j r e h a = e ∙ ap (λ (p : List ℕ). fits_from p ks i) (next_of pattern j h) ∙ a (drop (j + 1) pattern)

  pub letters_passed : (i j : ℕ) → fits_pattern pattern ks ≡ fits_from (drop j pattern) ks i → length pattern ≤ j → eqb i (length ks) ≡ fits_pattern pattern ks
  letters_passed i j e h = sym (e ∙ ap (λ (p : List ℕ). fits_from p ks i) (drop_of_length-le pattern h) ∙ all-passed ks i)
