-- What is not finite stays so: infinities and NaN never become finite again by * and +. So testing both readings and the mass covers every entry. Assumes nothing.
--   add_left, add_right, mul_left    a sum is finite only if both its parts are, and a product only if its first factor is
--   mass_covers_entries    where an entry is not finite the mass is not
--   no-pressure, no-temperature, no-mass, a-mass    the tests of both readings and of the mass, one after the other, are `all_finite`
use mathlib.Core.Bool.{Bool, true, false, ◌&&◌, cond, beq}
use mathlib.Core.List.{List, [], ◌∷◌}
use mathlib.Core.Path.{◌≡◌, refl, sym, ◌∙◌}
use Prim.Native.Nat.{ℕ, suc}
use native.Mathlib.Omega.{arith}
use lib.Dec.{eqb}
use lib.Ieee.{Float, nan, inf, fin, Format, binary64, of_bits, add, mul, unlike}
use Rattle.rounded.specs.Finite.{finite}
use Rattle.surface.specs.Mass.{monomial_at, add_terms, add_degrees, mass_of, nought}
use Rattle.surface.specs.Surface.{table_finite, entries_finite, all_finite}

-- neither choice is finite
no_choice : (b : Bool) (x y : Float) → finite x ≡ false → finite y ≡ false → finite (cond b x y) ≡ false
no_choice true x y h k = h
no_choice false x y h k = k

pub add_left : (f : Format) (x y : Float) → finite x ≡ false → finite (add f x y) ≡ false
unfolding add
add_left f nan y h = refl
add_left f (inf s) nan h = refl
add_left f (inf s) (inf t) h = no_choice (beq s t) (inf s) nan refl refl
add_left f (inf s) (fin t n d) h = refl
add_left f (fin s m e) y h = cc

pub add_right : (f : Format) (x y : Float) → finite y ≡ false → finite (add f x y) ≡ false
unfolding add
add_right f nan y h = refl
add_right f (inf s) nan h = refl
add_right f (inf s) (inf t) h = no_choice (beq s t) (inf s) nan refl refl
add_right f (inf s) (fin t n d) h = refl
add_right f (fin s m e) nan h = refl
add_right f (fin s m e) (inf t) h = refl
add_right f (fin s m e) (fin t n d) h = cc

pub mul_left : (f : Format) (x y : Float) → finite x ≡ false → finite (mul f x y) ≡ false
unfolding mul
mul_left f nan y h = refl
mul_left f (inf s) nan h = refl
mul_left f (inf s) (inf t) h = refl
mul_left f (inf s) (fin t n d) h = no_choice (eqb n 0) nan (inf (unlike s t)) refl refl
mul_left f (fin s m e) y h = cc

-- a sum that is not finite stays so
terms_of_none : (m : ℕ → Float) (j : ℕ) (cs : List ℕ) (sum : Float) → finite sum ≡ false → finite (add_terms m j cs sum) ≡ false
unfolding add_terms
terms_of_none m j [] sum h = h
terms_of_none m j (c ∷ cs) sum h = terms_of_none m (suc j) cs _ (add_left binary64 sum _ h)

degrees_of_none : (p t : Float) (k : ℕ) (ts : List (List ℕ)) (sum : Float) → finite sum ≡ false → finite (add_degrees p t k ts sum) ≡ false
unfolding add_degrees
degrees_of_none p t k [] sum h = h
degrees_of_none p t k (cs ∷ ts) sum h = degrees_of_none p t (suc k) ts _ (terms_of_none (monomial_at p t k) 0 cs sum h)

-- of two tests that do not both hold, one does not
one_fails : {P : Type 0} (a b : Bool) → (a && b) ≡ false → (a ≡ false → P) → (b ≡ false → P) → P
one_fails true b h f g = g h
one_fails false b h f g = f refl

-- nor does a sum that has met such an entry become finite
terms_none : (m : ℕ → Float) (j : ℕ) (cs : List ℕ) (sum : Float) → table_finite cs ≡ false → finite (add_terms m j cs sum) ≡ false
unfolding add_terms
terms_none m j [] sum h = cc
terms_none m j (c ∷ cs) sum h = one_fails (finite (of_bits binary64 c)) (table_finite cs) h
    (λ e. terms_of_none m (suc j) cs _ (add_right binary64 sum _ (mul_left binary64 (of_bits binary64 c) (m j) e)))
    (λ e. terms_none m (suc j) cs _ e)

degrees_none : (p t : Float) (k : ℕ) (ts : List (List ℕ)) (sum : Float) → entries_finite ts ≡ false → finite (add_degrees p t k ts sum) ≡ false
unfolding add_degrees
degrees_none p t k [] sum h = cc
degrees_none p t k (cs ∷ ts) sum h = one_fails (table_finite cs) (entries_finite ts) h
    (λ e. degrees_of_none p t (suc k) ts _ (terms_none (monomial_at p t k) 0 cs sum e))
    (λ e. degrees_none p t (suc k) ts _ e)

pub mass_covers_entries : (p t : Float) (ts : List (List ℕ)) → entries_finite ts ≡ false → finite (mass_of p t ts) ≡ false
mass_covers_entries p t ts e = degrees_none p t 0 ts nought e

-- ---- the tests of a call

stops : (a r : Bool) → a ≡ false → (a && r) ≡ false
stops true r h = absurd (let q : ◌≡◌ {A = ℕ} 0 1 = cc in omega arith)
stops false r h = refl

goes_on : (a r v : Bool) → a ≡ true → r ≡ v → (a && r) ≡ v
goes_on true r v h e = e
goes_on false r v h e = absurd (let q : ◌≡◌ {A = ℕ} 0 1 = cc in omega arith)

module _ (p t : Float) (ts : List (List ℕ)) where
  pub no-pressure : finite p ≡ false → all_finite p t ts ≡ false
  no-pressure h = stops (finite p) _ h

  pub no-temperature : finite p ≡ true → finite t ≡ false → all_finite p t ts ≡ false
  no-temperature h k = goes_on (finite p) _ false h (stops (finite t) _ k)

  entries-covered : (v : Bool) → finite (mass_of p t ts) ≡ v → (entries_finite ts && finite (mass_of p t ts)) ≡ v
  entries-covered v = by (entries_finite ts) refl
    where
      by : (b : Bool) → entries_finite ts ≡ b → finite (mass_of p t ts) ≡ v → (b && finite (mass_of p t ts)) ≡ v
      by true e h = h
      by false e h = sym (mass_covers_entries p t ts e) ∙ h

  pub no-mass : finite p ≡ true → finite t ≡ true → finite (mass_of p t ts) ≡ false → all_finite p t ts ≡ false
  no-mass h k e = goes_on (finite p) _ false h (goes_on (finite t) _ false k (entries-covered false e))

  pub a-mass : finite p ≡ true → finite t ≡ true → finite (mass_of p t ts) ≡ true → all_finite p t ts ≡ true
  a-mass h k e = goes_on (finite p) _ true h (goes_on (finite t) _ true k (entries-covered true e))
