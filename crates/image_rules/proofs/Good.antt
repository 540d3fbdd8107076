-- What a good image is. Assumes nothing.
--   tables_short, tables_none, tables-many, check_rows    the verdict by the number of tables: cut, 0, above 64, or left to the rows
--   Row l size at place used, row_of, row-passed    what a row has whose fields have passed, and the other way round
--   RowOf l size i    the same of row i
--   Good l size t    t tables, each row right, and the bodies end where the image ends
--   good_exactly    the check gives t exactly if the image is so
--   rows-passed, rows_right    rows have passed exactly if each is right
--   bodies_rise, body_within, contents_within    bodies follow one another; a body and the contents end within a good image
use mathlib.Core.Path.{◌≡◌, refl, sym, ap, subst, ◌∙◌}
use mathlib.Core.Bool.{Bool, true, false, not, ◌&&◌}
use mathlib.Core.Logic.{◌↔◌, ⊎_elim}
use mathlib.Core.List.{List, [], ◌∷◌}
use Prim.Native.Nat.{ℕ, zero, suc, ◌+◌, ◌*◌, ◌-◌, ◌≤◌, ◌<◌}
use native.Mathlib.Nat.{eq-or-lt_of_le}
use native.Mathlib.Omega.{arith}
use borrow.Author.Tests.{lt-ltb, le-ltb, le-leb, lt-leb, eq-eqb, ltb-true, ltb-false, leb-true, eqb-true, not-true}
use lib.Dec.{leb, ltb, eqb}
use lib.ListN.{get_or}
use Rattle.words.specs.Word.{shifted_alphabet, count}
use Rattle.answers.specs.Says.{refuses_at, gives, refused_at_if}
use Rattle.answers.proofs.Says.{passed_with}
use Rattle.little_endian.specs.Bytes.{number_at}
use Rattle.image_rules.specs.Image.{tables, row_place, entries_at, family_of_byte, occurs, body_place, fields_at, row_fields, rows_from, fields, judged, ending, check_says}
use Rattle.image_rules.proofs.Fields.{Passed, judged-passed, passed-judged, passed_append, append_passed}

-- ---- the number of tables

pub tables_short : (l : List ℕ) (size : ℕ) → size < 4 → check_says l size ≡ refuses_at 11 size
unfolding judged
tables_short l size h = simp (lt-ltb size 4 h)

pub tables_none : (l : List ℕ) (size : ℕ) → 4 ≤ size → tables l ≡ 0 → check_says l size ≡ refuses_at 11 0
unfolding judged
tables_none l size h e = simp (le-ltb size 4 h, le-ltb 0 (tables l) (omega arith))

pub tables-many : (l : List ℕ) (size : ℕ) → 4 ≤ size → 64 < tables l → check_says l size ≡ refuses_at 11 0
unfolding judged
tables-many l size h g = simp (le-ltb size 4 h, lt-ltb 0 (tables l) (omega arith), lt-leb (tables l) 64 g)

-- a number of tables that is right leaves the rows
pub check_rows : (l : List ℕ) (size : ℕ) → 4 ≤ size → 0 < tables l → tables l ≤ 64 → check_says l size ≡ judged size (rows_from l 0 (tables l)) (ending size (body_place l (tables l)) (tables l))
unfolding judged
check_rows l size h a b = simp (le-ltb size 4 h, lt-ltb 0 (tables l) a, le-leb (tables l) 64 b)

-- ---- a row

-- what a good row has
pub record Row (l : List ℕ) (size at place : ℕ) (used : ℕ → ℕ → Bool) : Type 0 where
  pub fits : at + 12 ≤ size
  pub family : get_or l at 0 < 2
  pub degree : get_or l (at + 1) 0 ≤ 64
  pub fresh : used (get_or l at 0) (get_or l (at + 1) 0) ≡ false
  pub alphabet : shifted_alphabet (family_of_byte (get_or l at 0)) (get_or l (at + 2) 0) (get_or l (at + 1) 0) ≤ 64
  pub zero : get_or l (at + 3) 0 ≡ 0
  pub offset : number_at l (at + 4) 4 ≡ place
  pub entries : number_at l (at + 8) 4 ≡ count (family_of_byte (get_or l at 0)) (get_or l (at + 2) 0) (get_or l (at + 1) 0)
  pub some : 0 < number_at l (at + 8) 4
  pub ends : place + 8 * number_at l (at + 8) 4 ≤ 65536

pub both : (a b : Bool) → (a && b) ≡ true → (a ≡ true) × (b ≡ true)
both true b e = (refl, e)
both false b e = absurd (let z : ◌≡◌ {A = ℕ} 0 1 = cc in omega arith)

pub row_of : (l : List ℕ) (size at place : ℕ) (used : ℕ → ℕ → Bool) → Passed size (fields_at l at place used) → Row l size at place used
row_of l size at place used p =
    let d = both (leb (get_or l (at + 1) 0) 64) (not (used (get_or l at 0) (get_or l (at + 1) 0))) p.2.1 in
    let n = number_at l (at + 8) 4 in
    let c = count (family_of_byte (get_or l at 0)) (get_or l (at + 2) 0) (get_or l (at + 1) 0) in
    let last = p.2.2.2.2.2 in
    let x = both (eqb n c && ltb 0 n) (leb (place + 8 * n) 65536) last.1 in
    let y = both (eqb n c) (ltb 0 n) x.0 in
    record {
      fits = omega (arith, last.0);
      family = ltb-true (get_or l at 0) 2 p.1;
      degree = leb-true (get_or l (at + 1) 0) 64 d.0;
      fresh = not-true (used (get_or l at 0) (get_or l (at + 1) 0)) d.1;
      alphabet = leb-true (shifted_alphabet (family_of_byte (get_or l at 0)) (get_or l (at + 2) 0) (get_or l (at + 1) 0)) 64 p.2.2.1;
      zero = eqb-true (get_or l (at + 3) 0) 0 p.2.2.2.1;
      offset = eqb-true (number_at l (at + 4) 4) place p.2.2.2.2.1;
      entries = eqb-true n c y.0;
      some = ltb-true 0 n y.1;
      ends = leb-true (place + 8 * n) 65536 x.1;
    }

all_true : (a b c : Bool) → a ≡ true → b ≡ true → c ≡ true → (a && b && c) ≡ true
all_true true true true p q r = refl
all_true false b c p q r = p
all_true true false c p q r = q
all_true true true false p q r = r

both_true : (a b : Bool) → a ≡ true → b ≡ true → (a && b) ≡ true
both_true true b p q = q
both_true false b p q = p

pub row-passed : (l : List ℕ) (size at place : ℕ) (used : ℕ → ℕ → Bool) → Row l size at place used → Passed size (fields_at l at place used)
row-passed l size at place used r =
    let n = number_at l (at + 8) 4 in
    let h = r.fits in (
      omega arith,
      lt-ltb (get_or l at 0) 2 r.family,
      (
        omega arith,
        both_true (leb (get_or l (at + 1) 0) 64) (not (used (get_or l at 0) (get_or l (at + 1) 0))) (le-leb (get_or l (at + 1) 0) 64 r.degree) (ap not r.fresh),
        (
          omega arith,
          le-leb (shifted_alphabet (family_of_byte (get_or l at 0)) (get_or l (at + 2) 0) (get_or l (at + 1) 0)) 64 r.alphabet,
          (
            omega arith,
            eq-eqb (get_or l (at + 3) 0) 0 r.zero,
            (
              omega arith,
              eq-eqb (number_at l (at + 4) 4) place r.offset,
              (omega arith, all_true (eqb n (count (family_of_byte (get_or l at 0)) (get_or l (at + 2) 0) (get_or l (at + 1) 0))) (ltb 0 n) (leb (place + 8 * n) 65536) (eq-eqb n (count (family_of_byte (get_or l at 0)) (get_or l (at + 2) 0) (get_or l (at + 1) 0)) r.entries) (lt-ltb 0 n r.some) (le-leb (place + 8 * n) 65536 r.ends), tt),
            ),
          ),
        ),
      ),
    )

abbrev pub RowOf : List ℕ → ℕ → ℕ → Type 0
RowOf l size i = Row l size (row_place i) (body_place l i) (λ f k. occurs l f k i)

-- ---- a good image

pub record Good (l : List ℕ) (size t : ℕ) : Type 0 where
  pub is : tables l ≡ t
  pub some : 0 < t
  pub few : t ≤ 64
  pub row : (i : ℕ) → i < t → RowOf l size i
  pub ends : body_place l t ≡ size

pub rows-passed : (l : List ℕ) (size i left : ℕ) → Passed size (rows_from l i left) → (j : ℕ) → i ≤ j → j < i + left → RowOf l size j
unfolding rows_from
rows-passed l size i zero p j a b = absurd (omega arith)
rows-passed l size i (suc left) p j a b =
    let q = passed_append size (row_fields l i) (rows_from l (suc i) left) p in
    ⊎_elim
    (λ (e : i ≡ j). subst (λ (n : ℕ). RowOf l size n) e (row_of l size (row_place i) (body_place l i) (λ f k. occurs l f k i) q.0))
    (λ (h : i < j). rows-passed l size (suc i) left q.1 j (omega arith) (omega arith))
    (eq-or-lt_of_le a)

good_of : (l : List ℕ) (size t : ℕ) → check_says l size ≡ gives t → Good l size t
good_of l size t e =
    let p = judged-passed size (fields l) (ending size (body_place l (tables l)) (tables l)) t e in
    let a = passed_with (ltb size (body_place l (tables l))) 11 (size ∷ []) (refused_at_if (ltb (body_place l (tables l)) size) 11 (body_place l (tables l)) (gives (tables l))) t p.1 in
    let b = passed_with (ltb (body_place l (tables l)) size) 11 (body_place l (tables l) ∷ []) (gives (tables l)) t a.1 in
    let is : tables l ≡ t = cc in
    let d = both (ltb 0 (tables l)) (leb (tables l) 64) p.0.1 in
    record {
      is = is;
      some = omega (arith, ltb-true 0 (tables l) d.0);
      few = omega (arith, leb-true (tables l) 64 d.1);
      row = λ i h. rows-passed l size 0 (tables l) p.0.2 i (omega arith) (omega arith);
      ends = ap (body_place l) (sym is) ∙ (let x : body_place l (tables l) ≡ size = omega (arith, ltb-false size (body_place l (tables l)) a.0, ltb-false (body_place l (tables l)) size b.0) in x);
    }

pub rows_right : (l : List ℕ) (size i left : ℕ) → ((j : ℕ) → i ≤ j → j < i + left → RowOf l size j) → Passed size (rows_from l i left)
unfolding rows_from
rows_right l size i zero h = tt
rows_right l size i (suc left) h =
    append_passed size (row_fields l i) (rows_from l (suc i) left) (row-passed l size (row_place i) (body_place l i) (λ f k. occurs l f k i) (h i (omega arith) (omega arith)))
    (rows_right l size (suc i) left (λ j a b. h j (omega arith) (omega arith)))

pub good_exactly : (l : List ℕ) (size t : ℕ) → (check_says l size ≡ gives t) ↔ Good l size t
good_exactly l size t = (good_of l size t, back)
  where
    back : Good l size t → check_says l size ≡ gives t
    back g =
        let e : tables l ≡ t = g.is in
        check_rows l size (omega (arith, (g.row 0 g.some).fits)) (omega (arith, g.some)) (omega (arith, g.few))
        ∙ passed-judged size (rows_from l 0 (tables l)) (ending size (body_place l (tables l)) (tables l)) (rows_right l size 0 (tables l) (λ j a b. g.row j (omega arith)))
        ∙ ap (λ (n : ℕ). ending size (body_place l n) n) e
        ∙ ap (λ (n : ℕ). ending size n t) g.ends
        ∙ simp (le-ltb size size (omega arith))

pub bodies_rise : (l : List ℕ) (i d : ℕ) → body_place l i ≤ body_place l (d + i)
unfolding body_place
bodies_rise l i zero = omega (arith, ap (body_place l) (let e : 0 + i ≡ i = omega arith in e))
bodies_rise l i (suc d) = omega (arith, bodies_rise l i d, ap (body_place l) (let e : suc d + i ≡ suc (d + i) = omega arith in e))

pub body_within : (l : List ℕ) (size t i : ℕ) → Good l size t → i < t → body_place l i + 8 * entries_at l i ≤ size
unfolding body_place
body_within l size t i g h =
    let r = bodies_rise l (suc i) (t - suc i) in
    let e : t - suc i + suc i ≡ t = omega arith in
    omega (arith, r, ap (body_place l) e, g.ends)

pub contents_within : (l : List ℕ) (size t : ℕ) → Good l size t → 4 + 12 * t ≤ size
unfolding body_place
contents_within l size t g =
    let r = bodies_rise l 0 t in
    let e : t + 0 ≡ t = omega arith in
    omega (arith, r, ap (body_place l) e, g.ends, g.is)
