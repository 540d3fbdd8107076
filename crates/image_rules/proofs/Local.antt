-- The verdict rests on the first 772 bytes and the length, and a refusal inside the bytes that are there stays whatever follows. Assumes nothing.
--   Same l m size    two images agree on the first 772 of size bytes
--   number_same, body_same    then a number, and the place of a body, that are read off those bytes are the same
--   check_same    then an image of size bytes is judged alike
--   check_later    a refusal at an offset below size stays in a longer image that starts alike
--   check_over    an image of more than 65,536 bytes is refused at an offset below its length
--   good_same    an image is as good as one that has the same contents list
--   Shape s, check_shape    the verdict is a number of tables, or 11 with an offset
use mathlib.Core.Path.{◌≡◌, refl, sym, ap, ◌∙◌}
use mathlib.Core.Bool.{Bool, true, false, not}
use mathlib.Core.Logic.{◌⊎◌, inl, inr, ⊎_elim}
use mathlib.Core.List.{List, [], ◌∷◌, ◌++◌}
use Prim.Native.Nat.{ℕ, zero, suc, ◌+◌, ◌-◌, ◌≤◌, ◌<◌}
use native.Mathlib.Omega.{arith}
use borrow.Author.Tests.{lt-ltb, le-ltb, ltb-true, ltb-false}
use lib.Dec.{ltb}
use lib.ListN.{get_or}
use Rattle.little_endian.specs.Bytes.{number_at}
use Rattle.answers.specs.Says.{Says, refuses_at, gives, refused_at_if}
use Rattle.image_rules.specs.Image.{tables, row_place, occurs, body_place, Field, row_fields, rows_from, fields, judged, ending, check_says}
use Rattle.image_rules.proofs.Fields.{Passed}
use Rattle.image_rules.proofs.Good.{RowOf, Good, rows-passed, rows_right, tables_short, tables_none, tables-many, check_rows}

abbrev pub Same : List ℕ → List ℕ → ℕ → Type 0
Same l m size = (j : ℕ) → j < size → j < 772 → get_or l j 0 ≡ get_or m j 0

-- ---- what is read, and what it is held to

module _ (l m : List ℕ) (size : ℕ) (h : Same l m size) where
  pub number_same : (at w : ℕ) → at + w ≤ size → at + w ≤ 772 → number_at l at w ≡ number_at m at w
  unfolding number_at
  number_same at zero a b = refl
  number_same at (suc w) a b = omega (arith, h at (omega arith) (omega arith), number_same (suc at) w (omega arith) (omega arith))

  occurs-same : (f k i : ℕ) → row_place i ≤ size → row_place i ≤ 772 → occurs l f k i ≡ occurs m f k i
  unfolding occurs
  occurs-same f k zero a b = refl
  occurs-same f k (suc i) a b =
      cc (h (row_place i) (omega arith) (omega arith), h (row_place i + 1) (omega arith) (omega arith), occurs-same f k i (omega arith) (omega arith))

  pub body_same : (i : ℕ) → 4 ≤ size → row_place i ≤ size → row_place i ≤ 772 → body_place l i ≡ body_place m i
  unfolding body_place
  body_same zero g a b = ap row_place (number_same 0 4 (omega arith) (omega arith))
  body_same (suc i) g a b = omega (arith, body_same i g (omega arith) (omega arith), number_same (row_place i + 8) 4 (omega arith) (omega arith))

-- ---- fields that are alike

abbrev Alike : ℕ → List Field → List Field → Type 0
Alike size [] [] = Unit {0}
Alike size [] (g ∷ gs) = ⊥
Alike size (f ∷ fs) [] = ⊥
Alike size (f ∷ fs) (g ∷ gs) = (f.at ≡ g.at) × (f.width ≡ g.width) × (f.at + f.width ≤ size → f.right ≡ g.right) × Alike size fs gs

alike_append : (size : ℕ) (fs gs xs ys : List Field) → Alike size fs gs → Alike size xs ys → Alike size (fs ++ xs) (gs ++ ys)
alike_append size [] [] xs ys a b = b
alike_append size [] (g ∷ gs) xs ys a b = absurd a
alike_append size (f ∷ fs) [] xs ys a b = absurd a
alike_append size (f ∷ fs) (g ∷ gs) xs ys a b = (a.0, a.1, a.2, alike_append size fs gs xs ys a.3 b)

module _ (l m : List ℕ) (size : ℕ) (h : Same l m size) (g : 4 ≤ size) where
  row-alike : (i : ℕ) → row_place i + 12 ≤ 772 → Alike size (row_fields l i) (row_fields m i)
  row-alike i b =
      let p = row_place i in (
        refl,
        refl,
        λ x. cc (h p (omega arith) (omega arith)),
        (
          refl,
          refl,
          λ x. cc (h p (omega arith) (omega arith), h (p + 1) (omega arith) (omega arith), occurs-same l m size h (get_or l p 0) (get_or l (p + 1) 0) i (omega arith) (omega arith)),
          (
            refl,
            refl,
            λ x. cc (h p (omega arith) (omega arith), h (p + 1) (omega arith) (omega arith), h (p + 2) (omega arith) (omega arith)),
            (
              refl,
              refl,
              λ x. cc (h (p + 3) (omega arith) (omega arith)),
              (
                refl,
                refl,
                λ x. cc (number_same l m size h (p + 4) 4 (omega arith) (omega arith), body_same l m size h i g (omega arith) (omega arith)),
                (
                  refl,
                  refl,
                  λ x. cc (h p (omega arith) (omega arith), h (p + 1) (omega arith) (omega arith), h (p + 2) (omega arith) (omega arith), number_same l m size h (p + 8) 4 (omega arith) (omega arith), body_same l m size h i g (omega arith) (omega arith)),
                  tt,
                ),
              ),
            ),
          ),
        ),
      )

  rows_alike : (i left : ℕ) → row_place (i + left) ≤ 772 → Alike size (rows_from l i left) (rows_from m i left)
  unfolding rows_from
  rows_alike i zero b = tt
  rows_alike i (suc left) b = alike_append size (row_fields l i) (row_fields m i) (rows_from l (suc i) left) (rows_from m (suc i) left) (row-alike i (omega arith)) (rows_alike (suc i) left (omega arith))

-- judged at one size, alike fields are judged alike
judged_alike : {A : Type 0} (size : ℕ) (fs gs : List Field) (s t : Says A) → Alike size fs gs → (Passed size fs → s ≡ t) → judged size fs s ≡ judged size gs t
unfolding judged
judged_alike size [] [] s t a h = h tt
judged_alike size [] (g ∷ gs) s t a h = absurd a
judged_alike size (f ∷ fs) [] s t a h = absurd a
judged_alike {A} size (f ∷ fs) (g ∷ gs) s t a h = go (ltb size (f.at + f.width)) refl f.right refl (judged_alike size fs gs s t a.3)
  where
    end : f.at + f.width ≡ g.at + g.width
    end = omega (arith, a.0, a.1)

    go : (b : Bool) → ltb size (f.at + f.width) ≡ b → (r : Bool) → f.right ≡ r → ((Passed size fs → s ≡ t) → judged size fs s ≡ judged size gs t)
        → refused_at_if b 11 size (refused_at_if (not r) 11 f.at (judged size fs s)) ≡ refused_at_if (ltb size (g.at + g.width)) 11 size (refused_at_if (not g.right) 11 g.at (judged size gs t))
    go true p r q rec = simp (lt-ltb size (g.at + g.width) (omega (arith, ltb-true size (f.at + f.width) p, end)))
    go false p false q rec =
        let w : g.right ≡ false = sym (a.2 (ltb-false size (f.at + f.width) p)) ∙ q in
        simp (le-ltb size (g.at + g.width) (omega (arith, ltb-false size (f.at + f.width) p, end)), w) (ap (λ (n : ℕ). refuses_at 11 n) a.0)
    go false p true q rec =
        let w : g.right ≡ true = sym (a.2 (ltb-false size (f.at + f.width) p)) ∙ q in
        simp (le-ltb size (g.at + g.width) (omega (arith, ltb-false size (f.at + f.width) p, end)), w) (rec (λ x. h (ltb-false size (f.at + f.width) p, q, x)))

-- a refusal inside the bytes that are there stays
judged-later : {A : Type 0} (size size' off : ℕ) (fs gs : List Field) (s t : Says A) → Alike size fs gs → size ≤ size' → off < size
    → (Passed size fs → s ≡ refuses_at 11 off → t ≡ refuses_at 11 off) → judged size fs s ≡ refuses_at 11 off → judged size' gs t ≡ refuses_at 11 off
unfolding judged
judged-later size size' off [] [] s t a l o h e = h tt e
judged-later size size' off [] (g ∷ gs) s t a l o h e = absurd a
judged-later size size' off (f ∷ fs) [] s t a l o h e = absurd a
judged-later {A} size size' off (f ∷ fs) (g ∷ gs) s t a l o h e = go (ltb size (f.at + f.width)) refl f.right refl e (judged-later size size' off fs gs s t a.3 l o)
  where
    end : f.at + f.width ≡ g.at + g.width
    end = omega (arith, a.0, a.1)

    go : (b : Bool) → ltb size (f.at + f.width) ≡ b → (r : Bool) → f.right ≡ r → refused_at_if b 11 size (refused_at_if (not r) 11 f.at (judged size fs s)) ≡ refuses_at 11 off
        → ((Passed size fs → s ≡ refuses_at 11 off → t ≡ refuses_at 11 off) → judged size fs s ≡ refuses_at 11 off → judged size' gs t ≡ refuses_at 11 off)
        → refused_at_if (ltb size' (g.at + g.width)) 11 size' (refused_at_if (not g.right) 11 g.at (judged size' gs t)) ≡ refuses_at 11 off
    go true p r q x rec = absurd (let z : size ≡ off = cc in omega arith)
    go false p false q x rec =
        let w : g.right ≡ false = sym (a.2 (ltb-false size (f.at + f.width) p)) ∙ q in
        let z : f.at ≡ off = cc in
        simp (le-ltb size' (g.at + g.width) (omega (arith, ltb-false size (f.at + f.width) p, end)), w) (ap (λ (n : ℕ). refuses_at 11 n) (sym a.0 ∙ z))
    go false p true q x rec =
        let w : g.right ≡ true = sym (a.2 (ltb-false size (f.at + f.width) p)) ∙ q in
        simp (le-ltb size' (g.at + g.width) (omega (arith, ltb-false size (f.at + f.width) p, end)), w) (rec (λ y. h (ltb-false size (f.at + f.width) p, q, y)) x)

-- ---- the number of tables

data Count (t : ℕ) : Type 0 where
  none : t ≡ 0 → Count t
  many : 64 < t → Count t
  some : 0 < t → t ≤ 64 → Count t

count_of : (t : ℕ) → Count t
count_of zero = none refl
count_of (suc t) = go (ltb 64 (suc t)) refl
  where
    go : (b : Bool) → ltb 64 (suc t) ≡ b → Count (suc t)
    go true e = many (ltb-true 64 (suc t) e)
    go false e = some (omega arith) (ltb-false 64 (suc t) e)

-- rows that have passed stand within the image
rows_end : (l : List ℕ) (size t : ℕ) → 0 < t → Passed size (rows_from l 0 t) → row_place t ≤ size
rows_end l size t a p = let r : RowOf l size (t - 1) = rows-passed l size 0 t p (t - 1) (omega arith) (omega arith) in omega (arith, r.fits)

short_or : (size : ℕ) → (size < 4) ⊎ (4 ≤ size)
short_or size = go (ltb size 4) refl
  where
    go : (b : Bool) → ltb size 4 ≡ b → (size < 4) ⊎ (4 ≤ size)
    go true e = inl (ltb-true size 4 e)
    go false e = inr (ltb-false size 4 e)

pub check_same : (l m : List ℕ) (size : ℕ) → Same l m size → check_says l size ≡ check_says m size
check_same l m size h =
    ⊎_elim (λ (a : size < 4). tables_short l size a ∙ sym (tables_short m size a)) (λ (a : 4 ≤ size). on a (count_of (tables l))) (short_or size)
  where
    on : 4 ≤ size → Count (tables l) → check_says l size ≡ check_says m size
    on a (none z) = tables_none l size a z ∙ sym (tables_none m size a (sym (number_same l m size h 0 4 a (omega arith)) ∙ z))
    on a (many z) = tables-many l size a z ∙ sym (tables-many m size a (omega (arith, number_same l m size h 0 4 a (omega arith))))
    on a (some y z) =
        let e : tables l ≡ tables m = number_same l m size h 0 4 a (omega arith) in
        check_rows l size a y z
        ∙ judged_alike size (rows_from l 0 (tables l)) (rows_from m 0 (tables l)) (ending size (body_place l (tables l)) (tables l)) (ending size (body_place m (tables l)) (tables l)) (rows_alike l m size h a 0 (tables l) (omega arith))
        (λ p. ap (λ (n : ℕ). ending size n (tables l)) (body_same l m size h (tables l) a (rows_end l size (tables l) y p) (omega arith)))
        ∙ ap (λ (n : ℕ). judged size (rows_from m 0 n) (ending size (body_place m n) n)) e
        ∙ sym (check_rows m size a (omega arith) (omega arith))

-- where the bodies end before the image does
ending_off : (size end t off : ℕ) → off < size → ending size end t ≡ refuses_at 11 off → end ≡ off
ending_off size end t off o = go (ltb size end) (ltb end size)
  where
    go : (b c : Bool) → refused_at_if b 11 size (refused_at_if c 11 end (gives t)) ≡ refuses_at 11 off → end ≡ off
    go true c e = absurd (let z : size ≡ off = cc in omega arith)
    go false true e = cc
    go false false e = absurd (let z : ◌≡◌ {A = ℕ} 0 1 = cc in omega arith)

ending_left : (size end t : ℕ) → end < size → ending size end t ≡ refuses_at 11 end
ending_left size end t h = simp (le-ltb size end (omega arith), lt-ltb end size h)

pub check_later : (l m : List ℕ) (size size' off : ℕ) → Same l m size → size ≤ size' → off < size → check_says l size ≡ refuses_at 11 off → check_says m size' ≡ refuses_at 11 off
check_later l m size size' off h g o e =
    ⊎_elim (λ (a : size < 4). absurd (let x : refuses_at {A = ℕ} 11 size ≡ refuses_at 11 off = sym (tables_short l size a) ∙ e in let z : size ≡ off = cc in omega arith)) (λ (a : 4 ≤ size). on a (count_of (tables l))) (short_or size)
  where
    on : 4 ≤ size → Count (tables l) → check_says m size' ≡ refuses_at 11 off
    on a (none z) = tables_none m size' (omega arith) (sym (number_same l m size h 0 4 a (omega arith)) ∙ z) ∙ sym (tables_none l size a z) ∙ e
    on a (many z) = tables-many m size' (omega arith) (omega (arith, number_same l m size h 0 4 a (omega arith))) ∙ sym (tables-many l size a z) ∙ e
    on a (some y z) =
        let q : tables l ≡ tables m = number_same l m size h 0 4 a (omega arith) in
        check_rows m size' (omega arith) (omega arith) (omega arith)
        ∙ ap (λ (n : ℕ). judged size' (rows_from m 0 n) (ending size' (body_place m n) n)) (sym q)
        ∙ judged-later size size' off (rows_from l 0 (tables l)) (rows_from m 0 (tables l)) (ending size (body_place l (tables l)) (tables l)) (ending size' (body_place m (tables l)) (tables l)) (rows_alike l m size h a 0 (tables l) (omega arith)) g o
        (λ p x.
        let w : body_place l (tables l) ≡ off = ending_off size (body_place l (tables l)) (tables l) off o x in
        let v : body_place m (tables l) ≡ off = sym (body_same l m size h (tables l) a (rows_end l size (tables l) y p) (omega arith)) ∙ w in
        ending_left size' (body_place m (tables l)) (tables l) (omega arith) ∙ ap (λ (n : ℕ). refuses_at 11 n) v)
        (sym (check_rows l size a y z) ∙ e)

-- ---- the shape of a verdict

pub data Shape (s : Says ℕ) : Type 0 where
  good : (t : ℕ) → s ≡ gives t → Shape s
  bad : (off : ℕ) → s ≡ refuses_at 11 off → Shape s

judged_shape : (size : ℕ) (fs : List Field) (s : Says ℕ) → Shape s → Shape (judged size fs s)
unfolding judged
judged_shape size [] s h = h
judged_shape size (f ∷ fs) s h = go (ltb size (f.at + f.width)) f.right (judged_shape size fs s h)
  where
    go : (b r : Bool) → Shape (judged size fs s) → Shape (refused_at_if b 11 size (refused_at_if (not r) 11 f.at (judged size fs s)))
    go true r x = bad size refl
    go false false x = bad f.at refl
    go false true x = x

ending_shape : (size end t : ℕ) → Shape (ending size end t)
ending_shape size end t = go (ltb size end) (ltb end size)
  where
    go : (b c : Bool) → Shape (refused_at_if b 11 size (refused_at_if c 11 end (gives t)))
    go true c = bad size refl
    go false true = bad end refl
    go false false = good t refl

pub check_shape : (l : List ℕ) (size : ℕ) → Shape (check_says l size)
check_shape l size = judged_shape size (fields l) (ending size (body_place l (tables l)) (tables l)) (ending_shape size (body_place l (tables l)) (tables l))

-- ---- an image of more than 65,536 bytes

abbrev Ends : ℕ → List Field → Type 0
Ends size [] = Unit {0}
Ends size (f ∷ fs) = (f.at < size) × (f.at + f.width ≤ size) × Ends size fs

ends_append : (size : ℕ) (fs gs : List Field) → Ends size fs → Ends size gs → Ends size (fs ++ gs)
ends_append size [] gs a b = b
ends_append size (f ∷ fs) gs a b = (a.0, a.1, ends_append size fs gs a.2 b)

rows_within : (l : List ℕ) (size i left : ℕ) → row_place (i + left) ≤ size → Ends size (rows_from l i left)
unfolding rows_from
rows_within l size i zero h = tt
rows_within l size i (suc left) h =
    ends_append size (row_fields l i) (rows_from l (suc i) left)
    (omega arith, omega arith, (omega arith, omega arith, (omega arith, omega arith, (omega arith, omega arith, (omega arith, omega arith, (omega arith, omega arith, tt))))))
    (rows_within l size (suc i) left (omega arith))

-- fields within the image are right, or one of them is charged
abbrev Charged : ℕ → Says ℕ → Type 0
Charged size s = (off : ℕ) × (off < size) × (s ≡ refuses_at 11 off)

judged_within : (size : ℕ) (fs : List Field) (s : Says ℕ) → Ends size fs → Charged size (judged size fs s) ⊎ (Passed size fs × (judged size fs s ≡ s))
unfolding judged
judged_within size [] s h = inr (tt, refl)
judged_within size (f ∷ fs) s h = go f.right refl (judged_within size fs s h.2)
  where
    p : ltb size (f.at + f.width) ≡ false
    p = le-ltb size (f.at + f.width) h.1

    go : (r : Bool) → f.right ≡ r → Charged size (judged size fs s) ⊎ (Passed size fs × (judged size fs s ≡ s))
        → Charged size (refused_at_if (ltb size (f.at + f.width)) 11 size (refused_at_if (not f.right) 11 f.at (judged size fs s)))
        ⊎ (Passed size (f ∷ fs) × (refused_at_if (ltb size (f.at + f.width)) 11 size (refused_at_if (not f.right) 11 f.at (judged size fs s)) ≡ s))
    go false q x = inl (f.at, h.0, simp (p, q))
    go true q (inl x) = inl (x.0, x.1, simp (p, q) x.2)
    go true q (inr x) = inr ((h.1, q, x.0), simp (p, q) x.1)

-- the bodies end at 65,536 or before
bodies_low : (l : List ℕ) (size t : ℕ) → 0 < t → Passed size (rows_from l 0 t) → body_place l t ≤ 65536
unfolding body_place
bodies_low l size zero a p = absurd (omega arith)
bodies_low l size (suc t) a p = let r : RowOf l size t = rows-passed l size 0 (suc t) p t (omega arith) (omega arith) in omega (arith, r.ends)

pub check_over : (l : List ℕ) (size : ℕ) → 65536 < size → Charged size (check_says l size)
check_over l size h = on (count_of (tables l))
  where
    on : Count (tables l) → Charged size (check_says l size)
    on (none z) = (0, omega arith, tables_none l size (omega arith) z)
    on (many z) = (0, omega arith, tables-many l size (omega arith) z)
    on (some y z) = rest (judged_within size (rows_from l 0 (tables l)) (ending size (body_place l (tables l)) (tables l)) (rows_within l size 0 (tables l) (omega arith)))
      where
        c : check_says l size ≡ judged size (rows_from l 0 (tables l)) (ending size (body_place l (tables l)) (tables l))
        c = check_rows l size (omega arith) y z

        rest : Charged size (judged size (rows_from l 0 (tables l)) (ending size (body_place l (tables l)) (tables l)))
            ⊎ (Passed size (rows_from l 0 (tables l)) × (judged size (rows_from l 0 (tables l)) (ending size (body_place l (tables l)) (tables l)) ≡ ending size (body_place l (tables l)) (tables l)))
            → Charged size (check_says l size)
        rest (inl x) = (x.0, x.1, c ∙ x.2)
        rest (inr x) =
            let b : body_place l (tables l) ≤ 65536 = bodies_low l size (tables l) y x.0 in
            (body_place l (tables l), omega arith, c ∙ x.1 ∙ ending_left size (body_place l (tables l)) (tables l) (omega arith))

-- ---- an image with the same contents list

passed_alike : (size end : ℕ) (fs gs : List Field) → Alike end fs gs → Ends end fs → Passed size fs → Passed size gs
passed_alike size end [] [] a e p = tt
passed_alike size end [] (g ∷ gs) a e p = absurd a
passed_alike size end (f ∷ fs) [] a e p = absurd a
passed_alike size end (f ∷ fs) (g ∷ gs) a e p = (omega (arith, a.0, a.1, p.0), sym (a.2 e.1) ∙ p.1, passed_alike size end fs gs a.3 e.2 p.2)

pub good_same : (l m : List ℕ) (size t : ℕ) → Good l size t → Same l m (row_place t) → Good m size t
good_same l m size t g h =
    let low : row_place t ≤ 772 = omega (arith, g.few) in
    record {
      is = sym (number_same l m (row_place t) h 0 4 (omega arith) (omega arith)) ∙ g.is;
      some = g.some;
      few = g.few;
      row = λ i a. rows-passed m size 0 t (passed_alike size (row_place t) (rows_from l 0 t) (rows_from m 0 t) (rows_alike l m (row_place t) h (omega arith) 0 t (omega (arith, g.few))) (rows_within l (row_place t) 0 t (omega arith)) (rows_right l size 0 t (λ j b c. g.row j (omega arith)))) i (omega arith) (omega arith);
      ends = sym (body_same l m (row_place t) h t (omega arith) (omega arith) low) ∙ g.ends;
    }
