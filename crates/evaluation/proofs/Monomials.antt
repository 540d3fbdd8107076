-- The row of monomials that the evaluation keeps, and one degree more. Assumes nothing.
--   more-t, more-p    one temperature more at the end, and one pressure more, is one product more
--   Row p t k d row    the first k places of the row hold the monomials of degree d that have as many pressures as the place says
--   put, scaled    the row of one degree, and of the next, with the same roundings as from 1.0
--   right    what is read from the row is the monomial of the rank
--   no_table    a table without entries adds nothing
--   one_degree, no_degree    what is left to add from degree k on is its table by the row and what is left from the next; above the highest degree nothing is
use mathlib.Core.List.{List, [], ◌∷◌, ◌++◌, append-nil}
use mathlib.Core.Path.{◌≡◌, refl, sym, ◌∙◌, ap}
use mathlib.Core.Logic.{⊎_elim}
use Prim.Native.Nat.{ℕ, zero, suc, ◌+◌, ◌-◌, ◌≤◌, ◌<◌}
use native.Mathlib.Omega.{arith}
use native.Mathlib.Nat.{eq-or-lt_of_le}
use lib.ListN.{length, get_or, set, length-set}
use lib.Seq.{get_or-set_same, get_or-set_other}
use lib.Ieee.{Float, nan, binary64, mul}
use Rattle.image_reading.proofs.Looking.{none_found}
use Rattle.surface.specs.Mass.{reading_of, times_each, one, monomial, monomial_at, add_terms, add_degrees}
use Rattle.surface.specs.Surface.{table_of, tables_from, Surface}
use Rattle.surface.proofs.TwoSymbols.{times, unrank_is_term}
use Rattle.surface.proofs.Rows.{no_body, table-length}
use Rattle.evaluation.specs.Rows.{highest_degree, from_row, Scaled}
use Rattle.evaluation.proofs.Turns.{none_above}

-- ---- one symbol more

module _ (p t : Float) where
  each_append : (m : Float) (w v : List ℕ) → times_each p t m (w ++ v) ≡ times_each p t (times_each p t m w) v
  unfolding times_each
  each_append m [] v = refl
  each_append m (s ∷ w) v = each_append (mul binary64 m (reading_of p t s)) w v

  each-times : (m : Float) (n s : ℕ) → times_each p t m (times (suc n) s) ≡ mul binary64 (times_each p t m (times n s)) (reading_of p t s)
  unfolding times_each
  each-times m zero s = refl
  each-times m (suc n) s = each-times (mul binary64 m (reading_of p t s)) n s

  pub more-t : (w : List ℕ) (n : ℕ) → monomial p t (w ++ times (suc n) 1) ≡ mul binary64 (monomial p t (w ++ times n 1)) t
  more-t w n = each_append one w (times (suc n) 1) ∙ each-times _ n 1 ∙ rw (each_append one w (times n 1))

  pub more-p : (n : ℕ) (x : Float) → x ≡ monomial p t (times n 0) → mul binary64 x p ≡ monomial p t (times (n + 1) 0)
  more-p n x h = let e : n + 1 ≡ suc n = omega arith in rw (h, e) (sym (each-times one n 0))

  -- ---- the row

  pub record Row (k d : ℕ) (row : List Float) : Type 0 where
    pub long : length row ≡ 64
    pub holds : (a : ℕ) → a < k → get_or row a nan ≡ monomial p t (times a 0 ++ times (d - a) 1)

  -- the monomial of pressures alone is put behind the others
  pub put : (k : ℕ) (row : List Float) (power : Float) → k < 64 → power ≡ monomial p t (times k 0) → Row k k row → Row (k + 1) k (set row k power)
  put k row power h e r = record {
    long = length-set row k power ∙ r.long;
    holds = λ a b. ⊎_elim
        (λ (q : a ≡ k). rw q (get_or-set_same row k power nan (rw r.long h) ∙ e ∙ (let z : k - k ≡ 0 = omega arith in rw (z, append-nil))))
        (λ (q : a < k). get_or-set_other row k a power nan (λ z. omega arith) ∙ r.holds a q)
        (eq-or-lt_of_le (omega arith));
  }

  pub scaled : (k : ℕ) (row row' : List Float) → Row (k + 1) k row → Scaled (k + 1) t row row' → Row (k + 1) (k + 1) row'
  scaled k row row' r s = record {
    long = s.long ∙ r.long;
    holds = λ a b. s.scaled a b ∙ rw (r.holds a b) (
        let e : k + 1 - a ≡ suc (k - a) = omega arith in
        rw e (sym (more-t (times a 0) (k - a))));
  }

  pub right : (k : ℕ) (row : List Float) → Row (k + 1) k row → (j : ℕ) → j ≤ k → from_row row k j ≡ monomial_at p t k j
  right k row r j h = let e : k - (k - j) ≡ j = omega arith in r.holds (k - j) (omega arith) ∙ rw (e, unrank_is_term k j h)

-- ---- the sum

-- only the monomials of ranks that have an entry matter
same_terms : (m m' : ℕ → Float) (j k : ℕ) (cs : List ℕ) (sum : Float) → j + length cs ≤ k → ((i : ℕ) → i < k → m i ≡ m' i) → add_terms m j cs sum ≡ add_terms m' j cs sum
unfolding add_terms
same_terms m m' j k [] sum h e = refl
same_terms m m' j k (c ∷ cs) sum h e = rw (e j (omega arith)) (same_terms m m' (suc j) k cs _ (omega arith) e)

pub one_degree : (p t : Float) (l : List ℕ) (n k : ℕ) (row : List Float) (sum : Float) → k < 64 → Surface l n → Row p t (k + 1) k row
    → add_degrees p t (k + 1) (tables_from l (k + 1) (64 - (k + 1))) (add_terms (from_row row k) 0 (table_of l k) sum) ≡ add_degrees p t k (tables_from l k (64 - k)) sum
unfolding add_degrees tables_from
one_degree p t l n k row sum h s r =
    let d : 64 - k ≡ suc (64 - (k + 1)) = omega arith in
    let e : k + 1 ≡ suc k = omega arith in
    rw (d, same_terms (from_row row k) (monomial_at p t k) 0 (k + 1) (table_of l k) sum (omega (arith, table-length l n k s)) (λ i z. right p t k row r i (omega arith)), e)

-- tables without entries add nothing
none_left : (p t : Float) (l : List ℕ) (k n : ℕ) (sum : Float) → ((j : ℕ) → k ≤ j → table_of l j ≡ []) → add_degrees p t k (tables_from l k n) sum ≡ sum
unfolding add_degrees add_terms tables_from
none_left p t l k zero sum h = refl
none_left p t l k (suc n) sum h = rw (h k (omega arith)) (none_left p t l (suc k) n sum (λ j q. h j (omega arith)))

pub no_degree : (p t : Float) (l : List ℕ) (n k : ℕ) (sum : Float) → Surface l n → highest_degree l n < k → add_degrees p t k (tables_from l k (64 - k)) sum ≡ sum
no_degree p t l n k sum s h =
    none_left p t l k (64 - k) sum (λ j q. no_body l n j 12 [] s (none_found l 1 j n (λ i a f d. let w = none_above l n i a in omega (arith, w, d))))

-- a table without entries adds nothing
pub no_table : (m : ℕ → Float) (cs : List ℕ) (sum : Float) → cs ≡ [] → sum ≡ add_terms m 0 cs sum
unfolding add_terms
no_table m cs sum e = sym (ap (λ (x : List ℕ). add_terms m 0 x sum) e)
