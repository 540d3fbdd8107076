-- The rows of a surface's image. Assumes nothing.
--   none_other    no row of a surface is a table of another family or alphabet
--   contents_lie    the contents of a good image lie within it, at most 64 rows
--   terms_over_two    over 2 symbols there are k + 1 terms of degree k
--   degree-low    no table of a surface has a degree above 63
--   Body l k i, found-body    where row i has degree k: its body lies in the image, and is the table of that degree
--   no_body    where no row has a degree, its table has no entries
--   table-length    a table of degree k has no more than k + 1 entries
use mathlib.Core.Path.{◌≡◌, refl, ap, ◌∙◌}
use mathlib.Core.Bool.{Bool, true, false, ◌&&◌}
use mathlib.Core.Logic.{⊎_elim}
use mathlib.Core.List.{List, []}
use Prim.Native.Nat.{ℕ, zero, suc, ◌+◌, ◌*◌, ◌≤◌, ◌<◌}
use native.Mathlib.Nat.{eq-or-lt_of_le}
use native.Mathlib.Omega.{arith}
use borrow.Author.Tests.{eqb-true}
use lib.Dec.{eqb}
use lib.ListN.{length}
use Rattle.pascal.specs.Choose.{choose}
use Rattle.pascal.proofs.Choose.{choose_none, choose_all, pascal}
use Rattle.words.specs.declared.Family.TheVariants.{Allowed}
use Rattle.words.specs.Pick.{pick}
use Rattle.words.specs.Word.{shifted_alphabet, count}
use Rattle.answers.specs.Says.{Says, refuses_with, gives, and_then}
use Rattle.image_rules.specs.Image.{family_at, degree_at, alphabet_at, offset_at, entries_at, family_of_byte, image_says}
use Rattle.image_rules.proofs.Good.{both, RowOf, good_exactly, contents_within}
use Rattle.image_reading.specs.Reading.{find_row, number_says, table_at}
use Rattle.image_reading.proofs.Looking.{Names, found_of, Given, row_given}
use Rattle.surface.specs.Surface.{numbers_at, body_of, table_of, some_other, Surface}

-- ---- no other table

not_true_false : {P : Type 0} → true ≡ false → P
not_true_false e = absurd (let z : ◌≡◌ {A = ℕ} 0 1 = cc in omega arith)

pub none_other : (l : List ℕ) (t : ℕ) → some_other l t ≡ false → (i : ℕ) → i < t → (family_at l i ≡ 1) × (alphabet_at l i ≡ 2)
unfolding some_other
none_other l zero e i h = absurd (omega arith)
none_other l (suc t) e i h = go (eqb (family_at l t) 1 && eqb (alphabet_at l t) 2) refl e (λ q. none_other l t q i)
  where
    go : (b : Bool) → (eqb (family_at l t) 1 && eqb (alphabet_at l t) 2) ≡ b → pick b (some_other l t) true ≡ false → (some_other l t ≡ false → i < t → (family_at l i ≡ 1) × (alphabet_at l i ≡ 2))
        → (family_at l i ≡ 1) × (alphabet_at l i ≡ 2)
    go false q x rec = not_true_false x
    go true q x rec =
        let d = both (eqb (family_at l t) 1) (eqb (alphabet_at l t) 2) q in
        ⊎_elim
        (λ (s : i ≡ t). (ap (family_at l) s ∙ eqb-true (family_at l t) 1 d.0, ap (alphabet_at l) s ∙ eqb-true (alphabet_at l t) 2 d.1))
        (λ (s : i < t). rec x s)
        (eq-or-lt_of_le (let w : i ≤ t = omega arith in w))

pub contents_lie : (l : List ℕ) (t : ℕ) → image_says l ≡ gives t → (t ≤ 64) × (4 + 12 * t ≤ length l)
contents_lie l t e = let g = (good_exactly l (length l) t).0 e in (g.few, contents_within l (length l) t g)

-- ---- the body of a degree

over_two : (k : ℕ) → choose (2 + k) (suc k) ≡ suc (suc k)
over_two zero = pascal 1 0 ∙ rw (choose_none 1, choose_all 1)
over_two (suc k) =
    let a : 2 + suc k ≡ suc (2 + k) = omega arith in
    let b : 2 + k ≡ suc (suc k) = omega arith in
    ap (λ (n : ℕ). choose n (suc (suc k))) a ∙ pascal (2 + k) (suc k)
    ∙ (let x : choose (2 + k) (suc k) + choose (2 + k) (suc (suc k)) ≡ suc (suc (suc k)) = omega (arith, over_two k, ap (λ (n : ℕ). choose n (suc (suc k))) b, choose_all (suc (suc k))) in x)

pub terms_over_two : (k : ℕ) → count Allowed 2 k ≡ k + 1
terms_over_two zero = choose_none 2
terms_over_two (suc k) = over_two k ∙ (let e : suc (suc k) ≡ suc k + 1 = omega arith in e)

narrow : (k : ℕ) → shifted_alphabet Allowed 2 k ≤ 64 → k < 64
narrow zero h = omega arith
narrow (suc k) h = omega arith

pub degree-low : (l : List ℕ) (t i : ℕ) → Surface l t → i < t → degree_at l i < 64
degree-low l t i s h =
    let o = none_other l t s.own i h in
    let r : RowOf l (length l) i = ((good_exactly l (length l) t).0 s.good).row i h in
    narrow (degree_at l i) (
    let a : shifted_alphabet (family_of_byte (family_at l i)) (alphabet_at l i) (degree_at l i) ≡ shifted_alphabet Allowed 2 (degree_at l i) =
    ap (λ (f : ℕ). shifted_alphabet (family_of_byte f) (alphabet_at l i) (degree_at l i)) o.0 ∙ ap (λ (n : ℕ). shifted_alphabet Allowed n (degree_at l i)) o.1 in
    omega (arith, a, r.alphabet))

numbered : (l : List ℕ) (t k : ℕ) → image_says l ≡ gives t → number_says l Allowed k ≡ find_row l 1 k t
numbered l t k e = ap (λ (s : Says ℕ). and_then s (λ (n : ℕ). find_row l 1 k n)) e

tabled : (l : List ℕ) (t k : ℕ) (s : Says ℕ) → image_says l ≡ gives t → find_row l 1 k t ≡ s → table_of l k ≡ body_of l (and_then s (λ i. gives (table_at l i)))
tabled l t k s e f = ap (λ (r : Says ℕ). body_of l (and_then r (λ (i : ℕ). gives (table_at l i)))) (numbered l t k e ∙ f)

pub record Body (l : List ℕ) (k i : ℕ) : Type 0 where
  pub low : i < 64
  pub row : 4 + 12 * i + 12 ≤ length l
  pub body : offset_at l i + 8 * (k + 1) ≤ length l
  pub table : table_of l k ≡ numbers_at l (offset_at l i) (k + 1)

pub found-body : (l : List ℕ) (t k i : ℕ) → Surface l t → find_row l 1 k t ≡ gives i → Body l k i
found-body l t k i s f =
    let g : Given l Allowed k i = row_given l Allowed k i (numbered l t k s.good ∙ f) in
    let n : Names l t 1 k i = found_of l 1 k t i f in
    let o = none_other l t s.own i n.below in
    let c : entries_at l i ≡ k + 1 = g.entries ∙ ap (λ (m : ℕ). count Allowed m k) o.1 ∙ terms_over_two k in
    record {
      low = g.low;
      row = g.row;
      body = omega (arith, g.body, c);
      table = tabled l t k (gives i) s.good f ∙ ap (numbers_at l (offset_at l i)) c;
    }

pub no_body : (l : List ℕ) (t k e : ℕ) (c : List ℕ) → Surface l t → find_row l 1 k t ≡ refuses_with e c → table_of l k ≡ []
no_body l t k e c s f = tabled l t k (refuses_with e c) s.good f

numbers-length : (l : List ℕ) (at n : ℕ) → length (numbers_at l at n) ≡ n
unfolding numbers_at
numbers-length l at zero = refl
numbers-length l at (suc n) = ap suc (numbers-length l (at + 8) n)

pub table-length : (l : List ℕ) (t k : ℕ) → Surface l t → length (table_of l k) ≤ k + 1
table-length l t k s = go (find_row l 1 k t) refl
  where
    go : (r : Says ℕ) → find_row l 1 k t ≡ r → length (table_of l k) ≤ k + 1
    go (gives i) e =
        let a : length (table_of l k) ≡ k + 1 = ap length (found-body l t k i s e).table ∙ numbers-length l (offset_at l i) (k + 1) in
        omega (arith, a)
    go (refuses_with d c) e =
        let a : length (table_of l k) ≡ 0 = ap length (no_body l t k d c s e) in
        omega (arith, a)
