-- The terms of a surface, and the products that they share (02, section 3). Assumes nothing.
--   pressure_shared, temperature_shared    the monomial of a term is one rounded product more than that of a term of the degree below: of rank 0 by the pressure, of every other by the temperature
--   term_of_rank    the word of rank j is k - j pressures, then j temperatures: an Allowed word over 2 whose rank is j
--   missing_degree_adds_nothing    a degree that no table has contributes no operation
--   mass_of_terms, missing_degree_has_no_terms    the mass is the sum, from +0.0, over the list of the surface's terms by degree and rank, in which a missing degree has none
use mathlib.Core.Path.{◌≡◌, refl, sym, ap, ◌∙◌}
use mathlib.Core.List.{List, [], ◌∷◌, ◌++◌, append-nil}
use Prim.Native.Nat.{ℕ, suc, ◌+◌, ◌-◌, ◌≤◌}
use native.Mathlib.Omega.{arith}
use lib.Ieee.{Float, binary64, mul}
use Rattle.words.specs.declared.Family.TheVariants.{Allowed}
use Rattle.words.specs.Word.{Word}
use Rattle.words.specs.Rank.{rank_of}
use Rattle.words.specs.Unrank.{unrank_of}
use Rattle.answers.specs.Says.{refuses}
use Rattle.image_reading.specs.Reading.{row_says}
use Rattle.surface.specs.Mass.{monomial, monomial_at, add_terms, add_degrees, mass_of, nought}
use Rattle.surface.specs.Surface.{body_of, table_of}
use Rattle.surface.proofs.TwoSymbols.{times, term_is_a_word, term_has_its_rank, unrank_is_term}
use Rattle.evaluation.proofs.Monomials.{more-p, more-t}
use Rattle.mass_promises.specs.Terms.{Term, of_table, terms_from, terms_of, add_all}

-- ---- what terms share

pub record TermIs (k j : ℕ) : Type 0 where
  pub is : unrank_of Allowed k j ≡ times (k - j) 0 ++ times j 1
  pub word : Word Allowed 2 k (times (k - j) 0 ++ times j 1)
  pub rank : rank_of Allowed (times (k - j) 0 ++ times j 1) ≡ j

pub term_of_rank : (k j : ℕ) → j ≤ k → TermIs k j
term_of_rank k j h = record { is = unrank_is_term k j h; word = term_is_a_word k j h; rank = term_has_its_rank k j }

pure : (p t : Float) (k : ℕ) → monomial_at p t k 0 ≡ monomial p t (times k 0)
pure p t k =
    let e : k - 0 ≡ k = omega arith in
    ap (monomial p t) (unrank_is_term k 0 (omega arith) ∙ ap (λ (n : ℕ). times n 0 ++ times 0 1) e ∙ append-nil (times k 0))

pub pressure_shared : (p t : Float) (k : ℕ) → monomial_at p t (k + 1) 0 ≡ mul binary64 (monomial_at p t k 0) p
pressure_shared p t k = pure p t (k + 1) ∙ sym (more-p p t k (monomial_at p t k 0) (pure p t k))

pub temperature_shared : (p t : Float) (k j : ℕ) → j ≤ k → monomial_at p t (k + 1) (suc j) ≡ mul binary64 (monomial_at p t k j) t
temperature_shared p t k j h =
    let e : k + 1 - suc j ≡ k - j = omega arith in
    ap (monomial p t) (unrank_is_term (k + 1) (suc j) (omega arith) ∙ ap (λ (n : ℕ). times n 0 ++ times (suc j) 1) e)
    ∙ more-t p t (times (k - j) 0) j
    ∙ ap (λ (w : List ℕ). mul binary64 (monomial p t w) t) (sym (unrank_is_term k j h))

-- ---- a missing degree

pub missing_degree_adds_nothing : (l : List ℕ) (p t : Float) (k : ℕ) (ts : List (List ℕ)) (sum : Float) → row_says l Allowed k ≡ refuses 12
    → add_degrees p t k (table_of l k ∷ ts) sum ≡ add_degrees p t (suc k) ts sum
unfolding add_degrees add_terms
missing_degree_adds_nothing l p t k ts sum e = ap (λ (cs : List ℕ). add_degrees p t (suc k) ts (add_terms (monomial_at p t k) 0 cs sum)) (ap (body_of l) e)

-- ---- the list of the terms

table_terms : (p t : Float) (k j : ℕ) (cs : List ℕ) (rest : List Term) (sum : Float) → add_all p t (of_table k j cs ++ rest) sum ≡ add_all p t rest (add_terms (monomial_at p t k) j cs sum)
unfolding add_terms
table_terms p t k j [] rest sum = refl
table_terms p t k j (c ∷ cs) rest sum = table_terms p t k (suc j) cs rest _

degrees_terms : (p t : Float) (k : ℕ) (ts : List (List ℕ)) (sum : Float) → add_all p t (terms_from k ts) sum ≡ add_degrees p t k ts sum
unfolding add_degrees
degrees_terms p t k [] sum = refl
degrees_terms p t k (cs ∷ ts) sum = table_terms p t k 0 cs (terms_from (suc k) ts) sum ∙ degrees_terms p t (suc k) ts (add_terms (monomial_at p t k) 0 cs sum)

pub mass_of_terms : (p t : Float) (ts : List (List ℕ)) → mass_of p t ts ≡ add_all p t (terms_of ts) nought
mass_of_terms p t ts = sym (degrees_terms p t 0 ts nought)

-- a degree that has no table has no terms
pub missing_degree_has_no_terms : (k : ℕ) (ts : List (List ℕ)) → terms_from k ([] ∷ ts) ≡ terms_from (suc k) ts
missing_degree_has_no_terms k ts = refl
