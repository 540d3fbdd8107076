-- What taking a line apart promises, about the definitions that the contracts cite. Assumes nothing.
--   one_word    a text says one word at most: no family is read as the other, no number as another
--   one_reading    a line asks for one thing at most: what it is lent, its verb and its words are determined
--   taken_apart, bad_head, bad-words    a line that `head` and `words` take asks for the verb and the words that they find; one that they refuse asks for nothing, or for more words than there are places
--   family_read, number_read    at the place of a family or a number among the words, that family and that number are read
--   list_read    a list that runs to the end is read whole
--   lists_read    two lists about a `/` are read whole, the first up to it and the second after it
--   end_fits, family_fits, number_fits, slash_fits, here_fits, nowhere_fits, raw_fits, list_fits    the words that fit a pattern: none at its end, then by its first letter a family, a number, the `/`, `here`, `nowhere`, `raw`, or as many numbers as its list has at most, and after them what fits the rest
use Rattle.std.specs.Prelude.{None}
use mathlib.Core.Bool.{Bool, true, false}
use mathlib.Core.Path.{◌≡◌, refl, sym, ap, ap₂, subst, ◌∙◌}
use mathlib.Core.Logic.{◌⊎◌, inl, inr}
use mathlib.Core.List.{List, [], ◌∷◌, ◌++◌, map}
use Prim.Native.Nat.{ℕ, zero, suc, ◌+◌, ◌-◌, ◌≤◌, ◌<◌}
use native.Mathlib.Nat.{le_of_suc-le-suc}
use native.Mathlib.Numerals.{add-one}
use native.Mathlib.Omega.{arith}
use lib.Dec.{eqb, ltb}
use lib.ListN.{length, take, drop, get_or}
use borrow.Author.Tests.{ltb-false}
use Rattle.words.specs.Pick.{pick}
use Rattle.words.specs.declared.Family.{Family}
use Rattle.words.specs.declared.Family.TheVariants.{Forbidden, Allowed}
use Rattle.text.specs.Text.{Found}
use Rattle.text.specs.Numeral.{value_from, Numeral}
use Rattle.text.proofs.Found.{found_first}
use Rattle.requests.specs.Protocol.{texts_from, LineWord, number, family, slash, here, nowhere, raw, Spells, AllSpell, Lent, enough, places, Opens, Asks}
use Rattle.requests.specs.Parts.{BeginsAt, Begins, kinds_of, values_of, TakesAll, Takes, family_at}
use Rattle.requests.specs.Patterns.{numbers_in, fits_pattern}
use Rattle.requests.proofs.Fitting.{Lists}

-- ---- one reading

-- the word that is no number, by its first byte
by_first : ℕ → LineWord
by_first b = pick (eqb b 102) (family Forbidden) (pick (eqb b 97) (family Allowed) (pick (eqb b 104) here (pick (eqb b 110) nowhere (pick (eqb b 114) raw slash))))

-- a first byte that is no digit
abbrev NoDigit : ℕ → Type 0
NoDigit b = (b < 48) ⊎ (57 < b)

-- a word is a number, or its text begins with a byte that is no digit and tells it
abbrev Told : List ℕ → LineWord → Type 0
Told t x = ((n : ℕ) × (x ≡ number n) × Numeral t n) ⊎ ((x ≡ by_first (get_or t 0 0)) × NoDigit (get_or t 0 0))

told : (t : List ℕ) (x : LineWord) → Spells t x → Told t x
unfolding by_first
told t (number n) s = inl (n, refl, s.0)
told t (family Forbidden) s = subst (λ (u : List ℕ). Told u (family Forbidden)) (sym s) (inr (refl, inr (omega arith)))
told t (family Allowed) s = subst (λ (u : List ℕ). Told u (family Allowed)) (sym s) (inr (refl, inr (omega arith)))
told t slash s = subst (λ (u : List ℕ). Told u slash) (sym s) (inr (refl, inl (omega arith)))
told t here s = subst (λ (u : List ℕ). Told u here) (sym s) (inr (refl, inr (omega arith)))
told t nowhere s = subst (λ (u : List ℕ). Told u nowhere) (sym s) (inr (refl, inr (omega arith)))
told t raw s = subst (λ (u : List ℕ). Told u raw) (sym s) (inr (refl, inr (omega arith)))

-- a numeral begins with a digit
begins_with_digit : (t : List ℕ) (n : ℕ) → Numeral t n → NoDigit (get_or t 0 0) → ⊥
begins_with_digit t n o (inl l) = let g = o.digits 0 o.some in omega (arith, g.0)
begins_with_digit t n o (inr l) = let g = o.digits 0 o.some in omega (arith, g.1)

pub one_word : (t : List ℕ) (x y : LineWord) → Spells t x → Spells t y → x ≡ y
one_word t x y p q = go (told t x p) (told t y q)
  where
    go : Told t x → Told t y → x ≡ y
    go (inl a) (inl b) = a.1 ∙ ap number (sym a.2.value ∙ b.2.value) ∙ sym b.1
    go (inl a) (inr b) = absurd (begins_with_digit t a.0 a.2 b.1)
    go (inr a) (inl b) = absurd (begins_with_digit t b.0 b.2 a.1)
    go (inr a) (inr b) = a.0 ∙ sym b.0

all_one : (ts : List (List ℕ)) (xs ys : List LineWord) → AllSpell ts xs → AllSpell ts ys → xs ≡ ys
all_one [] [] [] p q = refl
all_one [] [] (y ∷ ys) p q = absurd q
all_one [] (x ∷ xs) ys p q = absurd p
all_one (t ∷ ts) [] ys p q = absurd p
all_one (t ∷ ts) (x ∷ xs) [] p q = absurd q
all_one (t ∷ ts) (x ∷ xs) (y ∷ ys) p q = ap₂ (λ (z : LineWord) (zs : List LineWord). z ∷ zs) (one_word t x y p.0 q.0) (all_one ts xs ys p.1 q.1)

one_opening : (line : List ℕ) (l m : Lent) (u v : List ℕ) (ts us : List (List ℕ)) → Opens line l u ts → Opens line m v us → (l ≡ m) × ((u ≡ v) × (ts ≡ us))
one_opening line enough enough u v ts us p q = let a = p.lends in let b = q.lends in (refl, (cc, cc))
one_opening line enough (places n) u v ts us p q = absurd (p.once (let a = p.lends in let b = q.lends.whole in cc))
one_opening line (places n) enough u v ts us p q = absurd (q.once (let a = q.lends in let b = p.lends.whole in cc))
one_opening line (places n) (places m) u v ts us p q =
    let a = p.lends.whole in
    let b = q.lends.whole in
    let e : p.lends.numeral ≡ q.lends.numeral = cc in
    (ap places (sym p.lends.writes.value ∙ ap (value_from 0) e ∙ q.lends.writes.value), (cc, cc))

pub one_reading : (line : List ℕ) (l m : Lent) (u v : List ℕ) (xs ys : List LineWord) → Asks line l u xs → Asks line m v ys → (l ≡ m) × ((u ≡ v) × (xs ≡ ys))
one_reading line l m u v xs ys p q =
    let o = one_opening line l m u v p.rest q.rest p.opens q.opens in
    (o.0, (o.1.0, all_one q.rest xs ys (subst (λ (ts : List (List ℕ)). AllSpell ts xs) o.1.1 p.says) q.says))

-- ---- what `head` and `words` say together

module _ (line : List ℕ) (room from end : ℕ) (b : BeginsAt line room from end) (kinds values kinds' values' : List ℕ) where
  pub taken_apart : (n : ℕ) (t : TakesAll (texts_from line (end + 1)) kinds values kinds' values' n) → Asks line b.lent (take (end - from) (drop from line)) t.words
  taken_apart n t = record { rest = texts_from line (end + 1); opens = b.opens; says = t.says }

  pub bad-words : Takes (texts_from line (end + 1)) kinds values kinds' values' None → (lent : Lent) (verb : List ℕ) (xs : List LineWord)
      → length xs ≤ length kinds → length xs ≤ length values → Asks line lent verb xs → ⊥
  bad-words d lent verb xs k v o =
      let same = one_opening line lent b.lent verb (take (end - from) (drop from line)) o.rest (texts_from line (end + 1)) o.opens b.opens in
      d xs k v (subst (λ (ts : List (List ℕ)). AllSpell ts xs) same.1.1 o.says)

pub bad_head : (line : List ℕ) → Begins line None → (lent : Lent) (verb : List ℕ) (xs : List LineWord) → Asks line lent verb xs → ⊥
bad_head line d lent verb xs o = d lent verb o.rest o.opens

-- ---- the words by their places

pub family_read : (xs ys : List LineWord) (F : Family) → family_at (kinds_of (xs ++ (family F ∷ ys))) (length xs) ≡ F
family_read [] ys Forbidden = refl
family_read [] ys Allowed = refl
family_read (x ∷ xs) ys F = family_read xs ys F

pub number_read : (xs ys : List LineWord) (n : ℕ) → get_or (values_of (xs ++ (number n ∷ ys))) (length xs) 0 ≡ n
number_read [] ys n = refl
number_read (x ∷ xs) ys n = number_read xs ys n

values_of_numbers : (w : List ℕ) → values_of (map number w) ≡ w
values_of_numbers [] = refl
values_of_numbers (n ∷ w) = ap (λ (v : List ℕ). n ∷ v) (values_of_numbers w)

pub list_read : (xs : List LineWord) (w : List ℕ) → drop (length xs) (values_of (xs ++ map number w)) ≡ w
list_read [] w = values_of_numbers w
list_read (x ∷ xs) w = list_read xs w

-- the words of two lists
abbrev lists : List ℕ → List ℕ → List LineWord
lists v w = map number v ++ (slash ∷ map number w)

slash-place : (v w : List ℕ) (s : ℕ) → Found (kinds_of (lists v w)) 0 47 s → s ≡ length v
slash-place v w s f = subst (λ (k : ℕ). s ≡ k) (long v) (found_first (kinds_of (map number v)) (kinds_of (map number w)) 47 s (none v) (subst (λ (ks : List ℕ). Found ks 0 47 s) (split v) f))
  where
    long : (u : List ℕ) → length (kinds_of (map number u)) ≡ length u
    long [] = refl
    long (n ∷ u) = ap suc (long u)

    none : (u : List ℕ) (k : ℕ) → k < length (kinds_of (map number u)) → get_or (kinds_of (map number u)) k 0 ≡ 47 → ⊥
    none [] k l e = omega arith
    none (n ∷ u) zero l e = omega arith
    none (n ∷ u) (suc k) l e = none u k (le_of_suc-le-suc l) e

    split : (u : List ℕ) → kinds_of (lists u w) ≡ kinds_of (map number u) ++ (47 ∷ kinds_of (map number w))
    split [] = refl
    split (n ∷ u) = ap (λ (ks : List ℕ). 110 ∷ ks) (split u)

pub lists_read : (v w : List ℕ) (s : ℕ) → Found (kinds_of (lists v w)) 0 47 s → (take s (values_of (lists v w)) ≡ v) × (drop (s + 1) (values_of (lists v w)) ≡ w)
lists_read v w s f = (ap (λ (k : ℕ). take k (values_of (lists v w))) (slash-place v w s f) ∙ before v, ap (λ (k : ℕ). drop k (values_of (lists v w))) (ap (λ (k : ℕ). k + 1) (slash-place v w s f) ∙ add-one (length v)) ∙ after v)
  where
    before : (u : List ℕ) → take (length u) (values_of (lists u w)) ≡ u
    before [] = refl
    before (n ∷ u) = ap (λ (l : List ℕ). n ∷ l) (before u)

    after : (u : List ℕ) → drop (suc (length u)) (values_of (lists u w)) ≡ w
    after [] = values_of_numbers w
    after (n ∷ u) = after u

-- ---- what fits a pattern

never : {A : Type 0} → false ≡ true → A
never e = absurd (let z : ◌≡◌ {A = ℕ} 0 1 = cc in omega arith)

pub end_fits : (xs : List LineWord) → fits_pattern [] (kinds_of xs) ≡ true → xs ≡ []
unfolding fits_pattern
end_fits [] e = refl
end_fits (x ∷ xs) e = never e

pub family_fits : (p : List ℕ) (xs : List LineWord) → fits_pattern (70 ∷ p) (kinds_of xs) ≡ true → (F : Family) × (ys : List LineWord) × (xs ≡ family F ∷ ys) × (fits_pattern p (kinds_of ys) ≡ true)
unfolding fits_pattern
family_fits p [] e = never e
family_fits p (number n ∷ xs) e = never e
family_fits p (family Forbidden ∷ xs) e = (Forbidden, xs, refl, e)
family_fits p (family Allowed ∷ xs) e = (Allowed, xs, refl, e)
family_fits p (slash ∷ xs) e = never e
family_fits p (here ∷ xs) e = never e
family_fits p (nowhere ∷ xs) e = never e
family_fits p (raw ∷ xs) e = never e

pub number_fits : (p : List ℕ) (xs : List LineWord) → fits_pattern (110 ∷ p) (kinds_of xs) ≡ true → (n : ℕ) × (ys : List LineWord) × (xs ≡ number n ∷ ys) × (fits_pattern p (kinds_of ys) ≡ true)
unfolding fits_pattern
number_fits p [] e = never e
number_fits p (number n ∷ xs) e = (n, xs, refl, e)
number_fits p (family Forbidden ∷ xs) e = never e
number_fits p (family Allowed ∷ xs) e = never e
number_fits p (slash ∷ xs) e = never e
number_fits p (here ∷ xs) e = never e
number_fits p (nowhere ∷ xs) e = never e
number_fits p (raw ∷ xs) e = never e

pub slash_fits : (p : List ℕ) (xs : List LineWord) → fits_pattern (47 ∷ p) (kinds_of xs) ≡ true → (ys : List LineWord) × (xs ≡ slash ∷ ys) × (fits_pattern p (kinds_of ys) ≡ true)
unfolding fits_pattern
slash_fits p [] e = never e
slash_fits p (number n ∷ xs) e = never e
slash_fits p (family Forbidden ∷ xs) e = never e
slash_fits p (family Allowed ∷ xs) e = never e
slash_fits p (slash ∷ xs) e = (xs, refl, e)
slash_fits p (here ∷ xs) e = never e
slash_fits p (nowhere ∷ xs) e = never e
slash_fits p (raw ∷ xs) e = never e

pub here_fits : (p : List ℕ) (xs : List LineWord) → fits_pattern (104 ∷ p) (kinds_of xs) ≡ true → (ys : List LineWord) × (xs ≡ here ∷ ys) × (fits_pattern p (kinds_of ys) ≡ true)
unfolding fits_pattern
here_fits p [] e = never e
here_fits p (number n ∷ xs) e = never e
here_fits p (family Forbidden ∷ xs) e = never e
here_fits p (family Allowed ∷ xs) e = never e
here_fits p (slash ∷ xs) e = never e
here_fits p (here ∷ xs) e = (xs, refl, e)
here_fits p (nowhere ∷ xs) e = never e
here_fits p (raw ∷ xs) e = never e

pub nowhere_fits : (p : List ℕ) (xs : List LineWord) → fits_pattern (119 ∷ p) (kinds_of xs) ≡ true → (ys : List LineWord) × (xs ≡ nowhere ∷ ys) × (fits_pattern p (kinds_of ys) ≡ true)
unfolding fits_pattern
nowhere_fits p [] e = never e
nowhere_fits p (number n ∷ xs) e = never e
nowhere_fits p (family Forbidden ∷ xs) e = never e
nowhere_fits p (family Allowed ∷ xs) e = never e
nowhere_fits p (slash ∷ xs) e = never e
nowhere_fits p (here ∷ xs) e = never e
nowhere_fits p (nowhere ∷ xs) e = (xs, refl, e)
nowhere_fits p (raw ∷ xs) e = never e

pub raw_fits : (p : List ℕ) (xs : List LineWord) → fits_pattern (114 ∷ p) (kinds_of xs) ≡ true → (ys : List LineWord) × (xs ≡ raw ∷ ys) × (fits_pattern p (kinds_of ys) ≡ true)
unfolding fits_pattern
raw_fits p [] e = never e
raw_fits p (number n ∷ xs) e = never e
raw_fits p (family Forbidden ∷ xs) e = never e
raw_fits p (family Allowed ∷ xs) e = never e
raw_fits p (slash ∷ xs) e = never e
raw_fits p (here ∷ xs) e = never e
raw_fits p (nowhere ∷ xs) e = never e
raw_fits p (raw ∷ xs) e = (xs, refl, e)

-- the numbers that words begin with, and the words after them
numbers_first : (xs : List LineWord) → (w : List ℕ) × (ys : List LineWord) × (xs ≡ map number w ++ ys) × (length w ≡ numbers_in (kinds_of xs)) × (drop (numbers_in (kinds_of xs)) (kinds_of xs) ≡ kinds_of ys)
unfolding numbers_in
numbers_first [] = ([], [], refl, refl, refl)
numbers_first (number n ∷ xs) = go (numbers_first xs)
  where
    go : (w : List ℕ) × (ys : List LineWord) × (xs ≡ map number w ++ ys) × (length w ≡ numbers_in (kinds_of xs)) × (drop (numbers_in (kinds_of xs)) (kinds_of xs) ≡ kinds_of ys)
        → (w : List ℕ) × (ys : List LineWord) × (number n ∷ xs ≡ map number w ++ ys) × (length w ≡ suc (numbers_in (kinds_of xs))) × (drop (numbers_in (kinds_of xs)) (kinds_of xs) ≡ kinds_of ys)
    go t = (n ∷ t.0, t.1, ap (λ (l : List LineWord). number n ∷ l) t.2, ap suc t.3, t.4)
numbers_first (family Forbidden ∷ xs) = ([], family Forbidden ∷ xs, refl, refl, refl)
numbers_first (family Allowed ∷ xs) = ([], family Allowed ∷ xs, refl, refl, refl)
numbers_first (slash ∷ xs) = ([], slash ∷ xs, refl, refl, refl)
numbers_first (here ∷ xs) = ([], here ∷ xs, refl, refl, refl)
numbers_first (nowhere ∷ xs) = ([], nowhere ∷ xs, refl, refl, refl)
numbers_first (raw ∷ xs) = ([], raw ∷ xs, refl, refl, refl)

pub list_fits : (m l : ℕ) → Lists m l → (p : List ℕ) (xs : List LineWord) → fits_pattern (l ∷ p) (kinds_of xs) ≡ true
    → (w : List ℕ) × (ys : List LineWord) × (xs ≡ map number w ++ ys) × (length w ≤ m) × (fits_pattern p (kinds_of ys) ≡ true)
list_fits m l f p xs e = go (ltb m (numbers_in (kinds_of xs))) refl (numbers_first xs)
  where
    go : (t : Bool) → ltb m (numbers_in (kinds_of xs)) ≡ t
        → (w : List ℕ) × (ys : List LineWord) × (xs ≡ map number w ++ ys) × (length w ≡ numbers_in (kinds_of xs)) × (drop (numbers_in (kinds_of xs)) (kinds_of xs) ≡ kinds_of ys)
        → (w : List ℕ) × (ys : List LineWord) × (xs ≡ map number w ++ ys) × (length w ≤ m) × (fits_pattern p (kinds_of ys) ≡ true)
    go true d t = never (sym (f p (kinds_of xs) ∙ (simp d)) ∙ e)
    go false d t =
        (t.0, t.1, t.2, omega (arith, t.3, ltb-false m (numbers_in (kinds_of xs)) d), ap (fits_pattern p) (sym t.4) ∙ sym (f p (kinds_of xs) ∙ (simp d)) ∙ e)
