-- Looking for the row of a table. Assumes nothing.
--   find_here, find_family, find_degree, find_none    one turn of the search, from the last row up to the first
--   none_found    where no row has a family and a degree, none is found
--   Names l t f k i, found_of    row i of the first t has the family f and the degree k, where it is found
--   family_byte    the byte of the family that a right byte stands for is that byte
--   Given l F k i, row_given    what the row of a family and a degree has, in a good image
use mathlib.Core.Path.{◌≡◌, refl, sym, ap, ◌∙◌}
use mathlib.Core.Bool.{Bool, true, false, ◌&&◌}
use mathlib.Core.List.{List}
use Prim.Native.Nat.{ℕ, zero, suc, ◌+◌, ◌*◌, ◌≤◌, ◌<◌}
use native.Mathlib.Decide.{ℕ_discrete}
use native.Mathlib.Omega.{arith}
use borrow.Author.Tests.{eqb-true, eq-eqb, ne_eqb}
use lib.Dec.{eqb}
use lib.ListN.{length}
use Rattle.words.specs.declared.Family.{Family}
use Rattle.words.specs.declared.Family.TheVariants.{Forbidden, Allowed}
use Rattle.words.specs.Word.{count}
use Rattle.words.specs.Pick.{pick}
use Rattle.answers.specs.Says.{refuses, gives}
use Rattle.answers.proofs.Says.{then_gave}
use Rattle.image_rules.specs.Image.{family_at, degree_at, alphabet_at, offset_at, entries_at, family_of_byte, image_says}
use Rattle.image_rules.proofs.Good.{both, RowOf, Good, good_exactly, body_within}
use Rattle.image_reading.specs.Reading.{find_row, number_of_family, number_says}

-- ---- looking for a row, from the last up to the first

pub find_here : (l : List ℕ) (f k i j : ℕ) → i ≡ suc j → family_at l j ≡ f → degree_at l j ≡ k → find_row l f k i ≡ gives j
unfolding find_row
find_here l f k i j e x y = ap (find_row l f k) e ∙ simp (eq-eqb (family_at l j) f x, eq-eqb (degree_at l j) k y)

pub find_family : (l : List ℕ) (f k i j : ℕ) → i ≡ suc j → (family_at l j ≡ f → ⊥) → find_row l f k i ≡ find_row l f k j
unfolding find_row
find_family l f k i j e x = ap (find_row l f k) e ∙ simp (ne_eqb (family_at l j) f x)

pub find_degree : (l : List ℕ) (f k i j : ℕ) → i ≡ suc j → family_at l j ≡ f → (degree_at l j ≡ k → ⊥) → find_row l f k i ≡ find_row l f k j
unfolding find_row
find_degree l f k i j e x y = ap (find_row l f k) e ∙ simp (eq-eqb (family_at l j) f x, ne_eqb (degree_at l j) k y)

pub find_none : (l : List ℕ) (f k i : ℕ) → i ≡ 0 → find_row l f k i ≡ refuses 12
unfolding find_row
find_none l f k i e = ap (find_row l f k) e

pub none_found : (l : List ℕ) (f k n : ℕ) → ((i : ℕ) → i < n → family_at l i ≡ f → degree_at l i ≡ k → ⊥) → find_row l f k n ≡ refuses 12
none_found l f k zero h = find_none l f k 0 refl
none_found l f k (suc n) h = other (ℕ_discrete (family_at l n) f) (ℕ_discrete (degree_at l n) k) (none_found l f k n (λ i a x y. h i (omega arith) x y))
  where
    other : Dec (family_at l n ≡ f) → Dec (degree_at l n ≡ k) → find_row l f k n ≡ refuses 12 → find_row l f k (suc n) ≡ refuses 12
    other (no x) d r = find_family l f k (suc n) n refl x ∙ r
    other (yes x) (no y) r = find_degree l f k (suc n) n refl x y ∙ r
    other (yes x) (yes y) r = absurd (h n (omega arith) x y)

pub record Names (l : List ℕ) (t f k i : ℕ) : Type 0 where
  pub below : i < t
  pub family : family_at l i ≡ f
  pub degree : degree_at l i ≡ k

pub found_of : (l : List ℕ) (f k t i : ℕ) → find_row l f k t ≡ gives i → Names l t f k i
unfolding find_row
found_of l f k zero i e = absurd (let z : ◌≡◌ {A = ℕ} 0 1 = cc in omega arith)
found_of l f k (suc t) i e = go (eqb (family_at l t) f && eqb (degree_at l t) k) refl e (found_of l f k t i)
  where
    go : (b : Bool) → (eqb (family_at l t) f && eqb (degree_at l t) k) ≡ b → pick b (gives t) (find_row l f k t) ≡ gives i → (find_row l f k t ≡ gives i → Names l t f k i) → Names l (suc t) f k i
    go true q x rec =
        let d = both (eqb (family_at l t) f) (eqb (degree_at l t) k) q in
        let s : t ≡ i = cc in
        record { below = omega arith; family = ap (family_at l) (sym s) ∙ eqb-true (family_at l t) f d.0; degree = ap (degree_at l) (sym s) ∙ eqb-true (degree_at l t) k d.1 }
    go false q x rec = let r = rec x in record { below = omega (arith, r.below); family = r.family; degree = r.degree }

-- ---- the row of a table

pub record Given (l : List ℕ) (F : Family) (k i : ℕ) : Type 0 where
  pub low : i < 64
  pub row : 4 + 12 * i + 12 ≤ length l
  pub entries : entries_at l i ≡ count F (alphabet_at l i) k
  pub body : offset_at l i + 8 * entries_at l i ≤ length l
  pub short : offset_at l i + 8 * entries_at l i ≤ 65536

family-number : (F : Family) → family_of_byte (number_of_family F) ≡ F
family-number Forbidden = refl
family-number Allowed = refl

pub family_byte : (b : ℕ) → b < 2 → number_of_family (family_of_byte b) ≡ b
family_byte zero h = refl
family_byte (suc zero) h = refl
family_byte (suc (suc b)) h = absurd (omega arith)

pub row_given : (l : List ℕ) (F : Family) (k i : ℕ) → number_says l F k ≡ gives i → Given l F k i
row_given l F k i e =
    let a = then_gave (image_says l) (λ t. find_row l (number_of_family F) k t) i e in
    let g : Good l (length l) a.0 = (good_exactly l (length l) a.0).0 a.1 in
    let f : Names l a.0 (number_of_family F) k i = found_of l (number_of_family F) k a.0 i a.2 in
    let r : RowOf l (length l) i = g.row i f.below in
    let x : family_of_byte (family_at l i) ≡ F = ap family_of_byte f.family ∙ family-number F in
    record {
      low = omega (arith, f.below, g.few);
      row = r.fits;
      entries = r.entries ∙ ap (λ (G : Family). count G (alphabet_at l i) (degree_at l i)) x ∙ ap (λ (j : ℕ). count F (alphabet_at l i) j) f.degree;
      body = omega (arith, body_within l (length l) a.0 i g f.below, r.offset);
      short = omega (arith, r.ends, r.offset);
    }
