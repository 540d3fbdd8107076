-- The rows of the contents, one turn of the check a row. Assumes nothing.
--   fields_same    of the marks only the one that is asked for matters
--   Turn l size t i place used    after i rows of t: the rows left decide, place is where the next body starts, and used marks the families and degrees passed
--   turn_none, turn_more, turn_stopped, turn_end    before the first row, after a good one, at a bad one, and behind the last
--   turn_good    what a good row has
use mathlib.Core.Path.{◌≡◌, refl, sym, ap, ◌∙◌}
use mathlib.Core.Bool.{Bool, true, false, not, ◌&&◌}
use mathlib.Core.List.{List, [], ◌∷◌, ◌++◌}
use Prim.Native.Nat.{ℕ, suc, ◌+◌, ◌*◌, ◌-◌, ◌≤◌, ◌<◌}
use native.Mathlib.Decide.{ℕ_discrete}
use native.Mathlib.Omega.{arith}
use borrow.Author.Tests.{lt-ltb, le-ltb, le-leb, eq-eqb, ne_eqb, ltb-true, leb-true}
use lib.Dec.{leb, ltb, eqb}
use lib.ListN.{length, get_or, set, replicate, length-set, length-replicate, get_or-replicate}
use lib.Seq.{get_or-set_same, get_or-set_other}
use Rattle.words.specs.Word.{shifted_alphabet, count}
use Rattle.words.specs.Pick.{pick}
use Rattle.answers.specs.Says.{Says, refuses_with, gives, refused_at_if, and_then}
use Rattle.little_endian.specs.Bytes.{number_at}
use Rattle.image_rules.specs.Image.{tables, family_at, degree_at, family_of_byte, occurs, body_place, Field, fields_at, row_fields, rows_from, judged, ending, check_says}
use Rattle.image_rules.proofs.Fields.{judged_then, judged-passed}
use Rattle.image_rules.proofs.Good.{Row, row_of}
use Rattle.image_row.specs.Steps.{marked}

-- ---- the marks

pub fields_same : {A : Type 0} (l : List ℕ) (size at place : ℕ) (u v : ℕ → ℕ → Bool) (s : Says A)
    → (get_or l at 0 < 2 → get_or l (at + 1) 0 ≤ 64 → u (get_or l at 0) (get_or l (at + 1) 0) ≡ v (get_or l at 0) (get_or l (at + 1) 0))
    → judged size (fields_at l at place u) s ≡ judged size (fields_at l at place v) s
unfolding judged
fields_same {A} l size at place u v s h = go (ltb (get_or l at 0) 2) refl (leb (get_or l (at + 1) 0) 64) refl
  where
    f : ℕ
    f = get_or l at 0

    k : ℕ
    k = get_or l (at + 1) 0

    -- what stands behind the degree
    rest : Says A
    rest = judged size (
        record { at = at + 2; width = 1; right = leb (shifted_alphabet (family_of_byte (get_or l at 0)) (get_or l (at + 2) 0) (get_or l (at + 1) 0)) 64 }
        ∷ record { at = at + 3; width = 1; right = eqb (get_or l (at + 3) 0) 0 }
        ∷ record { at = at + 4; width = 4; right = eqb (number_at l (at + 4) 4) place }
        ∷ record {
          at = at + 8;
          width = 4;
          right = eqb (number_at l (at + 8) 4) (count (family_of_byte (get_or l at 0)) (get_or l (at + 2) 0) (get_or l (at + 1) 0)) && ltb 0 (number_at l (at + 8) 4) && leb (place + 8 * number_at l (at + 8) 4) 65536;
        }
        ∷ []) s

    with-tests : Bool → Bool → Bool → Says A
    with-tests b d w =
        refused_at_if (ltb size (at + 1)) 11 size (refused_at_if (not b) 11 at (refused_at_if (ltb size (at + 1 + 1)) 11 size (refused_at_if (not (d && not w)) 11 (at + 1) rest)))

    go : (b : Bool) → ltb (get_or l at 0) 2 ≡ b → (d : Bool) → leb (get_or l (at + 1) 0) 64 ≡ d → with-tests b d (u (get_or l at 0) (get_or l (at + 1) 0)) ≡ with-tests b d (v (get_or l at 0) (get_or l (at + 1) 0))
    go false p d q = refl
    go true p false q = refl
    go true p true q = ap (with-tests true true) (h (ltb-true (get_or l at 0) 2 p) (leb-true (get_or l (at + 1) 0) 64 q))

-- ---- a turn

pub record Turn (l : List ℕ) (size t i place : ℕ) (used : List Bool) : Type 0 where
  pub within : i ≤ t
  pub few : t ≤ 64
  pub is : t ≡ tables l
  pub here : place ≡ body_place l i
  pub low : place ≤ 65536
  pub long : length used ≡ 130
  pub marks : (f k : ℕ) → f < 2 → k ≤ 64 → marked used f k ≡ occurs l f k i
  pub says : check_says l size ≡ judged size (rows_from l i (t - i)) (ending size (body_place l t) t)

pub turn_none : (l : List ℕ) (size t : ℕ) → 4 ≤ size → (t ≡ 0 → ⊥) → t ≤ 64 → t ≡ tables l → Turn l size t 0 (4 + 12 * t) (replicate 130 false)
unfolding judged occurs body_place
turn_none l size t h z g e =
    record {
      within = omega arith;
      few = g;
      is = e;
      here = ap (λ (n : ℕ). 4 + 12 * n) e;
      low = omega arith;
      long = length-replicate 130 false;
      marks = λ f k p q. get_or-replicate 130 (65 * f + k) false false (omega arith);
      says =
          let p : ltb 0 (tables l) ≡ true = lt-ltb 0 (tables l) (omega arith) in
          let q : leb (tables l) 64 ≡ true = le-leb (tables l) 64 (omega arith) in
          simp (le-ltb size 4 h, p, q) (ap (λ (n : ℕ). judged size (rows_from l 0 n) (ending size (body_place l n) n)) (sym e)
          ∙ ap (λ (n : ℕ). judged size (rows_from l 0 n) (ending size (body_place l t) t)) (let x : t ≡ t - 0 = omega arith in x));
    }

rows_turn : (l : List ℕ) (i t : ℕ) → i < t → rows_from l i (t - i) ≡ row_fields l i ++ rows_from l (i + 1) (t - (i + 1))
unfolding rows_from
rows_turn l i t h =
    ap (λ (n : ℕ). rows_from l i n) (let e : t - i ≡ suc (t - (i + 1)) = omega arith in e)
    ∙ ap (λ (n : ℕ). row_fields l i ++ rows_from l n (t - (i + 1))) (let e : suc i ≡ i + 1 = omega arith in e)

-- the verdict is that of the next row, and of what stands behind it
turn_row : {B : Type 0} (l : List ℕ) (size t i place : ℕ) (used : List Bool) (b : B) → Turn l size t i place used → i < t
    → check_says l size ≡ and_then (judged size (fields_at l (4 + 12 * i) place (marked used)) (gives b)) (λ x. judged size (rows_from l (i + 1) (t - (i + 1))) (ending size (body_place l t) t))
turn_row {B} l size t i place used b o h =
    o.says ∙ ap (λ (fs : List Field). judged size fs (ending size (body_place l t) t)) (rows_turn l i t h)
    ∙ judged_then size (row_fields l i) (rows_from l (i + 1) (t - (i + 1))) b (ending size (body_place l t) t)
    ∙ ap (λ (s : Says B). and_then s (λ (x : B). judged size (rows_from l (i + 1) (t - (i + 1))) (ending size (body_place l t) t)))
    (ap (λ (p : ℕ). judged size (fields_at l (4 + 12 * i) p (λ f k. occurs l f k i)) (gives b)) (sym o.here)
    ∙ sym (fields_same l size (4 + 12 * i) place (marked used) (λ f k. occurs l f k i) (gives b) (λ p q. o.marks _ _ p q)))

pub turn_stopped : (l : List ℕ) (size t i place : ℕ) (used : List Bool) (b d : ℕ) (p : List ℕ) → Turn l size t i place used → i < t
    → judged size (fields_at l (4 + 12 * i) place (marked used)) (gives b) ≡ refuses_with d p → check_says l size ≡ refuses_with d p
turn_stopped l size t i place used b d p o h e =
    turn_row l size t i place used b o h
    ∙ ap (λ (s : Says ℕ). and_then s (λ (x : ℕ). judged size (rows_from l (i + 1) (t - (i + 1))) (ending size (body_place l t) t))) e

-- the marks after one more row
mark_more : (l : List ℕ) (i : ℕ) (used : List Bool) → length used ≡ 130 → family_at l i < 2 → degree_at l i ≤ 64 → ((f k : ℕ) → f < 2 → k ≤ 64 → marked used f k ≡ occurs l f k i)
    → (f k : ℕ) → f < 2 → k ≤ 64 → marked (set used (65 * family_at l i + degree_at l i) true) f k ≡ occurs l f k (suc i)
unfolding occurs
mark_more l i used n p q h f k a b = go (ℕ_discrete (family_at l i) f) (ℕ_discrete (degree_at l i) k)
  where
    j : ℕ
    j = 65 * family_at l i + degree_at l i

    other : (65 * f + k ≡ j → ⊥) → marked (set used j true) f k ≡ occurs l f k i
    other e = get_or-set_other used j (65 * f + k) true false e ∙ h f k a b

    go : Dec (family_at l i ≡ f) → Dec (degree_at l i ≡ k) → marked (set used j true) f k ≡ pick (eqb (family_at l i) f && eqb (degree_at l i) k) true (occurs l f k i)
    go (yes x) (yes y) = simp (eq-eqb (family_at l i) f x, eq-eqb (degree_at l i) k y) (ap (λ (m : ℕ). get_or (set used j true) m false) (let e : 65 * f + k ≡ j = omega arith in e) ∙ get_or-set_same used j true false (omega arith))
    go (yes x) (no y) = simp (eq-eqb (family_at l i) f x, ne_eqb (degree_at l i) k y) (other (λ e. y (omega arith)))
    go (no x) d = simp (ne_eqb (family_at l i) f x) (other (λ e. x (omega arith)))

pub turn_good : (l : List ℕ) (size t i place c : ℕ) (used : List Bool) → Turn l size t i place used → i < t
    → judged size (fields_at l (4 + 12 * i) place (marked used)) (gives (number_at l (4 + 12 * i + 8) 4)) ≡ gives c
    → Row l size (4 + 12 * i) place (marked used) × (number_at l (4 + 12 * i + 8) 4 ≡ c)
turn_good l size t i place c used o h e =
    let p = judged-passed size (fields_at l (4 + 12 * i) place (marked used)) (gives (number_at l (4 + 12 * i + 8) 4)) c e in
    (row_of l size (4 + 12 * i) place (marked used) p.0, cc)

pub turn_more : (l : List ℕ) (size t i place c : ℕ) (used : List Bool) → Turn l size t i place used → i < t
    → judged size (fields_at l (4 + 12 * i) place (marked used)) (gives (number_at l (4 + 12 * i + 8) 4)) ≡ gives c
    → Turn l size t (i + 1) (place + 8 * c) (set used (65 * get_or l (4 + 12 * i) 0 + get_or l (4 + 12 * i + 1) 0) true)
unfolding body_place
turn_more l size t i place c used o h e =
    let g = turn_good l size t i place c used o h e in
    let s : suc i ≡ i + 1 = omega arith in
    record {
      within = omega arith;
      few = o.few;
      is = o.is;
      here = (let x : place + 8 * c ≡ body_place l (suc i) = omega (arith, o.here, g.1) in x) ∙ ap (body_place l) s;
      low = omega (arith, g.0.ends, g.1);
      long = length-set used (65 * get_or l (4 + 12 * i) 0 + get_or l (4 + 12 * i + 1) 0) true ∙ o.long;
      marks = λ f k p q. mark_more l i used o.long g.0.family g.0.degree o.marks f k p q ∙ ap (occurs l f k) s;
      says = turn_row l size t i place used (number_at l (4 + 12 * i + 8) 4) o h
          ∙ ap (λ (r : Says ℕ). and_then r (λ (x : ℕ). judged size (rows_from l (i + 1) (t - (i + 1))) (ending size (body_place l t) t))) e;
    }

pub turn_end : (l : List ℕ) (size t i place : ℕ) (used : List Bool) → Turn l size t i place used → t ≤ i → check_says l size ≡ ending size place t
unfolding judged rows_from
turn_end l size t i place used o h =
    let e : i ≡ t = omega (arith, o.within) in
    o.says ∙ ap (λ (n : ℕ). judged size (rows_from l i n) (ending size (body_place l t) t)) (let z : t - i ≡ 0 = omega arith in z)
    ∙ ap (λ (p : ℕ). ending size p t) (sym (o.here ∙ ap (body_place l) e))
