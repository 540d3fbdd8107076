-- Every table of a good image is found under its family and degree, and has a body of its own. Assumes nothing.
--   each_table_is_found    the table of each row's family and degree is the one that the row names
--   missing_is_twelve    where no row has a family and degree, the answer is 12
--   table_is_right    a table has as many entries as there are words, and its body starts where the one before it ends
--   bodies_apart    the bodies of two tables do not overlap
use mathlib.Core.Path.{◌≡◌, refl, sym, ap, ◌∙◌}
use mathlib.Core.Bool.{Bool, true, false, ◌&&◌}
use mathlib.Core.Logic.{⊎_elim}
use mathlib.Core.List.{List}
use Prim.Native.Nat.{ℕ, zero, suc, ◌+◌, ◌*◌, ◌-◌, ◌≤◌, ◌<◌}
use native.Mathlib.Decide.{ℕ_discrete}
use native.Mathlib.Nat.{eq-or-lt_of_le}
use native.Mathlib.Omega.{arith}
use borrow.Author.Tests.{eq-eqb}
use lib.Dec.{eqb}
use lib.ListN.{length}
use Rattle.words.specs.declared.Family.{Family}
use Rattle.words.specs.Pick.{pick}
use Rattle.words.specs.Word.{count}
use Rattle.answers.specs.Says.{Says, refuses, gives, and_then}
use Rattle.image_rules.specs.Image.{family_at, degree_at, alphabet_at, offset_at, entries_at, family_of_byte, occurs, body_place, image_says}
use Rattle.image_rules.proofs.Good.{Good, good_exactly, bodies_rise}
use Rattle.image_reading.specs.Reading.{number_of_family, find_row, number_says, table_at, row_says}
use Rattle.image_reading.proofs.Looking.{find_here, find_family, find_degree, none_found, family_byte}

-- ---- a row is found by its family and degree

pick_true : (b c : Bool) → c ≡ true → pick b true c ≡ true
pick_true true c e = refl
pick_true false c e = e

occurs_there : (l : List ℕ) (i t : ℕ) → i < t → occurs l (family_at l i) (degree_at l i) t ≡ true
unfolding occurs
occurs_there l i zero h = absurd (omega arith)
occurs_there l i (suc t) h =
    ⊎_elim
    (λ (e : i ≡ t). simp (eq-eqb (family_at l t) (family_at l i) (ap (family_at l) (sym e)), eq-eqb (degree_at l t) (degree_at l i) (ap (degree_at l) (sym e))))
    (λ (g : i < t). pick_true (eqb (family_at l t) (family_at l i) && eqb (degree_at l t) (degree_at l i)) (occurs l (family_at l i) (degree_at l i) t) (occurs_there l i t g))
    (eq-or-lt_of_le (let b : i ≤ t = omega arith in b))

true_is_not_false : {A : Type 0} → true ≡ false → A
true_is_not_false e = absurd (let z : ◌≡◌ {A = ℕ} 0 1 = cc in omega arith)

find_own : (l : List ℕ) (size t i : ℕ) → Good l size t → i < t → (n : ℕ) → i < n → n ≤ t → find_row l (family_at l i) (degree_at l i) n ≡ gives i
find_own l size t i g h zero a b = absurd (omega arith)
find_own l size t i g h (suc n) a b =
    ⊎_elim
    (λ (e : i ≡ n). find_here l (family_at l i) (degree_at l i) (suc n) n refl (ap (family_at l) (sym e)) (ap (degree_at l) (sym e)) ∙ ap gives (sym e))
    (λ (p : i < n). other p (ℕ_discrete (family_at l n) (family_at l i)) (ℕ_discrete (degree_at l n) (degree_at l i)) (find_own l size t i g h n p (omega arith)))
    (eq-or-lt_of_le (let c : i ≤ n = omega arith in c))
  where
    other : i < n → Dec (family_at l n ≡ family_at l i) → Dec (degree_at l n ≡ degree_at l i) → find_row l (family_at l i) (degree_at l i) n ≡ gives i
        → find_row l (family_at l i) (degree_at l i) (suc n) ≡ gives i
    other p (no x) d r = find_family l (family_at l i) (degree_at l i) (suc n) n refl x ∙ r
    other p (yes x) (no y) r = find_degree l (family_at l i) (degree_at l i) (suc n) n refl x y ∙ r
    other p (yes x) (yes y) r =
        true_is_not_false (sym (occurs_there l i n p) ∙ ap (λ (f : ℕ). occurs l f (degree_at l i) n) (sym x) ∙ ap (λ (k : ℕ). occurs l (family_at l n) k n) (sym y)
        ∙ (g.row n (omega arith)).fresh)

pub each_table_is_found : (l : List ℕ) (t i : ℕ) → image_says l ≡ gives t → i < t → row_says l (family_of_byte (family_at l i)) (degree_at l i) ≡ gives (table_at l i)
each_table_is_found l t i e h = ap (λ (s : Says ℕ). and_then s (λ (j : ℕ). gives (table_at l j))) numbered
  where
    g : Good l (length l) t
    g = (good_exactly l (length l) t).0 e

    numbered : number_says l (family_of_byte (family_at l i)) (degree_at l i) ≡ gives i
    numbered =
        ap (λ (s : Says ℕ). and_then s (λ (n : ℕ). find_row l (number_of_family (family_of_byte (family_at l i))) (degree_at l i) n)) e
        ∙ ap (λ (f : ℕ). find_row l f (degree_at l i) t) (family_byte (family_at l i) (g.row i h).family)
        ∙ find_own l (length l) t i g h t h (omega arith)

-- ---- a family and degree that no row has

pub missing_is_twelve : (l : List ℕ) (F : Family) (k t : ℕ) → image_says l ≡ gives t → ((i : ℕ) → i < t → family_at l i ≡ number_of_family F → degree_at l i ≡ k → ⊥)
    → row_says l F k ≡ refuses 12
missing_is_twelve l F k t e h =
    ap (λ (s : Says ℕ). and_then (and_then s (λ (n : ℕ). find_row l (number_of_family F) k n)) (λ (j : ℕ). gives (table_at l j))) e
    ∙ ap (λ (s : Says ℕ). and_then s (λ (j : ℕ). gives (table_at l j))) (none_found l (number_of_family F) k t h)

-- ---- what a table has

pub table_is_right : (l : List ℕ) (t i : ℕ) → image_says l ≡ gives t → i < t
    → ((table_at l i).entries ≡ count (family_of_byte (family_at l i)) (alphabet_at l i) (degree_at l i)) × ((table_at l i).offset ≡ body_place l i)
table_is_right l t i e h = let r = ((good_exactly l (length l) t).0 e).row i h in (r.entries, r.offset)

pub bodies_apart : (l : List ℕ) (t i j : ℕ) → image_says l ≡ gives t → i < j → j < t → offset_at l i + 8 * entries_at l i ≤ offset_at l j
unfolding body_place
bodies_apart l t i j e a h =
    let g : Good l (length l) t = (good_exactly l (length l) t).0 e in
    let d : j - suc i + suc i ≡ j = omega arith in
    omega (arith, bodies_rise l (suc i) (j - suc i), ap (body_place l) d, (g.row i (omega arith)).offset, (g.row j h).offset)
