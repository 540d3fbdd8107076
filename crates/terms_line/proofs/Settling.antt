-- The first line of an input, from its first bytes. Assumes nothing.
--   longest_line_lem, longest_is_asked    a line that asks for words has 51 bytes at most, and one has so many
--   first_answers    what the bytes up to the first newline ask for is what the first line asks for, whatever follows what settles it
use Rattle.std.specs.Prelude.{Option, Some, None}
use mathlib.Core.Bool.{Bool, true, false}
use mathlib.Core.Path.{◌≡◌, refl, sym, ap, subst, ◌∙◌}
use mathlib.Core.List.{List, [], ◌∷◌, ◌++◌, append-nil}
use Prim.Native.Nat.{ℕ, zero, suc, ◌-◌, ◌^◌, ◌≤◌, ◌<◌}
use native.Mathlib.Nat.{le_of_suc-le-suc, sub-zero}
use native.Mathlib.Omega.{arith}
use lib.Dec.{ltb}
use lib.ListN.{length, take, get_or, length-append}
use lib.Seq.{take_all}
use borrow.Author.Rules.{rules}
use borrow.Author.Tests.{ltb-true, ltb-false, eq-eqb, ne_eqb}
use Rattle.words.specs.declared.Family.{Family}
use Rattle.words.specs.declared.Family.TheVariants.{Forbidden, Allowed}
use Rattle.text.specs.Text.{Found}
use Rattle.text.specs.Names.{name_of}
use Rattle.text.specs.Numeral.{IsDigit, value_from, Numeral}
use Rattle.text.proofs.Numeral.{numeral_within}
use Rattle.terms_line.specs.Line.{AsksWords, Parses, first_line, line_limit, Settled, ended, newline, long, Answers}
use Rattle.terms_line.specs.declared.Words.{Words}

-- ---- the longest line

name_within : (F : Family) → length (name_of F) ≤ 9
name_within Forbidden = omega arith
name_within Allowed = omega arith

pub longest_line_lem : (text : List ℕ) (F : Family) (n k : ℕ) → AsksWords text F n k → length text ≤ line_limit
longest_line_lem text F n k o =
    omega (
      arith,
      ap length o.whole,
      length-append (name_of F) (32 ∷ (o.first ++ (32 ∷ o.second))),
      length-append o.first (32 ∷ o.second),
      name_within F,
      numeral_within o.first n o.first_writes o.first_fits,
      numeral_within o.second k o.second-writes o.second_fits,
    )

-- the numeral of 2 ^ 64 - 1
abbrev pub largest_numeral : List ℕ
largest_numeral = 49 ∷ 56 ∷ 52 ∷ 52 ∷ 54 ∷ 55 ∷ 52 ∷ 52 ∷ 48 ∷ 55 ∷ 51 ∷ 55 ∷ 48 ∷ 57 ∷ 53 ∷ 53 ∷ 49 ∷ 54 ∷ 49 ∷ 53 ∷ []

abbrev Digits : List ℕ → Type 0
Digits [] = Unit {0}
Digits (b ∷ w) = IsDigit b × Digits w

digits_at : (w : List ℕ) → Digits w → (k : ℕ) → k < length w → IsDigit (get_or w k 0)
digits_at [] d k l = absurd (omega arith)
digits_at (b ∷ w) d zero l = d.0
digits_at (b ∷ w) d (suc k) l = digits_at w d.1 k (le_of_suc-le-suc l)

largest-writes : Numeral largest_numeral (2 ^ 64 - 1)
unfolding value_from
largest-writes = record { some = omega arith; digits = digits_at largest_numeral (search rules); plain = λ l e. omega (arith, e); value = refl }

abbrev longest_line : List ℕ
longest_line = name_of Forbidden ++ (32 ∷ (largest_numeral ++ (32 ∷ largest_numeral)))

pub longest_is_asked : AsksWords longest_line Forbidden (2 ^ 64 - 1) (2 ^ 64 - 1) × (length longest_line ≡ line_limit)
longest_is_asked = (
  record { first = largest_numeral; second = largest_numeral; whole = refl; first_writes = largest-writes; first_fits = omega arith; second-writes = largest-writes; second_fits = omega arith },
  refl,
)

-- two lines that are longer than every good one ask for the same
too_long_lem : (s t : List ℕ) (r : Option Words) → line_limit < length s → line_limit < length t → Parses s r → Parses t r
too_long_lem s t (Some w) h l p = absurd (omega (arith, longest_line_lem s w.family w.n w.k p))
too_long_lem s t None h l p = λ F n k o. omega (arith, longest_line_lem t F n k o)

-- ---- the first line

line_within : (s more : List ℕ) (e : ℕ) → ((k : ℕ) → k < e → get_or s k 0 ≡ 10 → ⊥) → e < length s → get_or s e 0 ≡ 10 → first_line (s ++ more) ≡ take e s
unfolding first_line
line_within [] more e none h there = absurd (omega arith)
line_within (b ∷ s) more zero none h there = simp (eq-eqb b 10 there)
line_within (b ∷ s) more (suc e) none h there =
    simp (ne_eqb b 10 (none 0 (omega arith)))
    (ap (λ (l : List ℕ). b ∷ l) (line_within s more e (λ k l q. none (suc k) (omega arith) q) (le_of_suc-le-suc h) there))

line_through : (s more : List ℕ) → ((k : ℕ) → k < length s → get_or s k 0 ≡ 10 → ⊥) → first_line (s ++ more) ≡ s ++ first_line more
unfolding first_line
line_through [] more none = refl
line_through (b ∷ s) more none =
    simp (ne_eqb b 10 (none 0 (omega arith))) (ap (λ (l : List ℕ). b ∷ l) (line_through s more (λ k l q. none (suc k) (omega arith) q)))

pub first_answers : (held : List ℕ) (e : ℕ) (r : Option Words) → Found held 0 10 e → Parses (take (e - 0) held) r → Answers held r
unfolding first_line
first_answers held e r f p more = go (ltb e (length held)) refl
  where
    all : length held ≤ e → take (e - 0) held ≡ held
    all h = ap (λ (k : ℕ). take k held) (sub-zero e) ∙ take_all e held h

    through : length held ≤ e → first_line (held ++ more) ≡ held ++ first_line more
    through h = line_through held more (λ k l q. f.none k (omega arith) (omega arith) q)

    open-ended : length held ≤ e → Settled held more → Parses (first_line (held ++ more)) r
    open-ended h (ended q) =
        subst (λ (s : List ℕ). Parses s r) (all h ∙ sym (through h ∙ ap (λ (l : List ℕ). held ++ first_line l) q ∙ append-nil held)) p
    open-ended h (newline k l q) = absurd (f.none k (omega arith) (omega arith) q)
    open-ended h (long l) =
        too_long_lem held (first_line (held ++ more)) r l (omega (arith, ap length (through h), length-append held (first_line more))) (subst (λ (s : List ℕ). Parses s r) (all h) p)

    go : (t : Bool) → ltb e (length held) ≡ t → Settled held more → Parses (first_line (held ++ more)) r
    go true q s =
        let h = ltb-true e (length held) q in
        subst (λ (s : List ℕ). Parses s r)
        (ap (λ (k : ℕ). take k held) (sub-zero e) ∙ sym (line_within held more e (λ k l z. f.none k l (omega arith) z) h (f.there h))) p
    go false q s = open-ended (ltb-false e (length held) q) s
