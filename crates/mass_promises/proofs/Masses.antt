-- What a mass that is given is, and when 14 comes (02, section 3). Assumes nothing.
--   mass_is_finite    a mass that is given is finite
--   mass_is_never_minus_zero    and its bits are never those of -0.0
--   readings_and_mass_suffice    the tests of both readings and of the mass tell all that has to be finite: what is not finite stays so
--   Unfit, unfit_exactly    a reading, the entry of a degree and a rank, or the mass is not finite
--   fourteen_exactly    on a surface, readings of one frame are refused with 14 exactly if a reading, an entry or the mass is not finite
use mathlib.Core.Path.{◌≡◌, refl, sym, ap, ◌∙◌}
use mathlib.Core.Bool.{Bool, true, false, ◌&&◌}
use mathlib.Core.Logic.{◌↔◌}
use mathlib.Core.List.{List, [], ◌∷◌}
use Prim.Native.Nat.{ℕ, zero, suc, ◌<◌}
use native.Mathlib.Omega.{arith}
use lib.ListN.{length, get_or}
use lib.Ieee.{Float, binary64, of_bits, to_bits}
use Rattle.answers.specs.Says.{refuses_with, gives}
use Rattle.rounded.specs.Finite.{finite}
use Rattle.surface.specs.Mass.{mass_of}
use Rattle.surface.specs.Surface.{surface_of, some_other, table_finite, entries_finite, all_finite, Surface}
use Rattle.surface.proofs.Finite.{no-pressure, no-temperature, no-mass, a-mass}
use Rattle.surface.proofs.Zero.{no_minus_zero_bits}
use Rattle.mass.specs.Mass.{mass_says}
use Rattle.mass_promises.proofs.Outcomes.{MassOf, mass_is_of_one_frame, Outcome, thirteen, eleven, seven, fourteen, given, mass_outcomes}

-- ---- a mass that is given

last_true : (a b c d : Bool) → (a && (b && (c && d))) ≡ true → d ≡ true
last_true true true true d e = e
last_true false b c d e = absurd (let z : ◌≡◌ {A = ℕ} 0 1 = cc in omega arith)
last_true true false c d e = absurd (let z : ◌≡◌ {A = ℕ} 0 1 = cc in omega arith)
last_true true true false d e = absurd (let z : ◌≡◌ {A = ℕ} 0 1 = cc in omega arith)

pub mass_is_finite : (l : List ℕ) (f : ℕ) (p : Float) (g : ℕ) (t m : Float) → mass_says l f p g t ≡ gives m → finite m ≡ true
mass_is_finite l f p g t m h =
    let r : MassOf l f p g t m = mass_is_of_one_frame l f p g t m h in
    ap finite r.sequence ∙ last_true (finite p) (finite t) (entries_finite (surface_of l)) (finite (mass_of p t (surface_of l))) r.numbers

pub mass_is_never_minus_zero : (l : List ℕ) (f : ℕ) (p : Float) (g : ℕ) (t m : Float) → mass_says l f p g t ≡ gives m → to_bits binary64 m ≡ 0x8000_0000_0000_0000 → ⊥
mass_is_never_minus_zero l f p g t m h e =
    let r : MassOf l f p g t m = mass_is_of_one_frame l f p g t m h in
    no_minus_zero_bits p t (surface_of l) (sym r.bits ∙ e)

-- ---- 14

pub readings_and_mass_suffice : (p t : Float) (ts : List (List ℕ)) → all_finite p t ts ≡ (finite p && (finite t && finite (mass_of p t ts)))
readings_and_mass_suffice p t ts = by (finite p) refl (finite t) refl (finite (mass_of p t ts)) refl
  where
    by : (a : Bool) → finite p ≡ a → (b : Bool) → finite t ≡ b → (c : Bool) → finite (mass_of p t ts) ≡ c → all_finite p t ts ≡ (a && (b && c))
    by false x b y c z = no-pressure p t ts x
    by true x false y c z = no-temperature p t ts x y
    by true x true y false z = no-mass p t ts x y z
    by true x true y true z = a-mass p t ts x y z

-- something is not finite: a reading, the entry of a degree and a rank, or the mass
pub data Unfit (p t : Float) (ts : List (List ℕ)) : Type 0 where
  pressure : finite p ≡ false → Unfit p t ts
  temperature : finite t ≡ false → Unfit p t ts
  entry : (k j : ℕ) → k < length ts → j < length (get_or ts k []) → finite (of_bits binary64 (get_or (get_or ts k []) j 0)) ≡ false → Unfit p t ts
  result : finite (mass_of p t ts) ≡ false → Unfit p t ts

false_is_not_true : {P : Type 0} → false ≡ true → P
false_is_not_true e = absurd (let z : ◌≡◌ {A = ℕ} 0 1 = cc in omega arith)

entry_of_table : (cs : List ℕ) → table_finite cs ≡ false → (j : ℕ) × (j < length cs) × (finite (of_bits binary64 (get_or cs j 0)) ≡ false)
entry_of_table [] e = false_is_not_true (sym e)
entry_of_table (c ∷ cs) e = by (finite (of_bits binary64 c)) refl e (entry_of_table cs)
  where
    by : (b : Bool) → finite (of_bits binary64 c) ≡ b → (b && table_finite cs) ≡ false → (table_finite cs ≡ false → (j : ℕ) × (j < length cs) × (finite (of_bits binary64 (get_or cs j 0)) ≡ false))
        → (j : ℕ) × (j < length (c ∷ cs)) × (finite (of_bits binary64 (get_or (c ∷ cs) j 0)) ≡ false)
    by false x h rec = (0, omega arith, x)
    by true x h rec = let r = rec h in (suc r.0, (let q = r.1 in omega arith), r.2)

entry_of_surface : (ts : List (List ℕ)) → entries_finite ts ≡ false → (k : ℕ) × (k < length ts) × (table_finite (get_or ts k []) ≡ false)
entry_of_surface [] e = false_is_not_true (sym e)
entry_of_surface (cs ∷ ts) e = by (table_finite cs) refl e (entry_of_surface ts)
  where
    by : (b : Bool) → table_finite cs ≡ b → (b && entries_finite ts) ≡ false → (entries_finite ts ≡ false → (k : ℕ) × (k < length ts) × (table_finite (get_or ts k []) ≡ false))
        → (k : ℕ) × (k < length (cs ∷ ts)) × (table_finite (get_or (cs ∷ ts) k []) ≡ false)
    by false x h rec = (0, omega arith, x)
    by true x h rec = let r = rec h in (suc r.0, (let q = r.1 in omega arith), r.2)

right_fails : (a b : Bool) → b ≡ false → (a && b) ≡ false
right_fails true b e = e
right_fails false b e = refl

left_fails : (a b : Bool) → a ≡ false → (a && b) ≡ false
left_fails true b e = false_is_not_true (sym e)
left_fails false b e = refl

table_of_entry : (cs : List ℕ) (j : ℕ) → j < length cs → finite (of_bits binary64 (get_or cs j 0)) ≡ false → table_finite cs ≡ false
table_of_entry [] j h e = absurd (omega arith)
table_of_entry (c ∷ cs) zero h e = left_fails (finite (of_bits binary64 c)) (table_finite cs) e
table_of_entry (c ∷ cs) (suc j) h e = right_fails (finite (of_bits binary64 c)) (table_finite cs) (table_of_entry cs j (omega arith) e)

surface_of_entry : (ts : List (List ℕ)) (k : ℕ) → k < length ts → table_finite (get_or ts k []) ≡ false → entries_finite ts ≡ false
surface_of_entry [] k h e = absurd (omega arith)
surface_of_entry (cs ∷ ts) zero h e = left_fails (table_finite cs) (entries_finite ts) e
surface_of_entry (cs ∷ ts) (suc k) h e = right_fails (table_finite cs) (entries_finite ts) (surface_of_entry ts k (omega arith) e)

pub unfit_exactly : (p t : Float) (ts : List (List ℕ)) → (all_finite p t ts ≡ false) ↔ Unfit p t ts
unfit_exactly p t ts = (to (finite p) refl (finite t) refl (entries_finite ts) refl, from)
  where
    to : (a : Bool) → finite p ≡ a → (b : Bool) → finite t ≡ b → (c : Bool) → entries_finite ts ≡ c → (a && (b && (c && finite (mass_of p t ts)))) ≡ false → Unfit p t ts
    to false x b y c z h = pressure x
    to true x false y c z h = temperature y
    to true x true y false z h = let r = entry_of_surface ts z in let q = entry_of_table (get_or ts r.0 []) r.2 in entry r.0 q.0 r.1 q.1 q.2
    to true x true y true z h = result h

    from : Unfit p t ts → all_finite p t ts ≡ false
    from (pressure x) = left_fails (finite p) _ x
    from (temperature x) = right_fails (finite p) _ (left_fails (finite t) _ x)
    from (entry k j a b x) = right_fails (finite p) _ (right_fails (finite t) _ (left_fails (entries_finite ts) _ (surface_of_entry ts k a (table_of_entry (get_or ts k []) j b x))))
    from (result x) = right_fails (finite p) _ (right_fails (finite t) _ (right_fails (entries_finite ts) _ x))

pub fourteen_exactly : (l : List ℕ) (n f : ℕ) (p t : Float) → Surface l n → (mass_says l f p f t ≡ refuses_with 14 (f ∷ [])) ↔ Unfit p t (surface_of l)
fourteen_exactly l n f p t s = (λ h. (unfit_exactly p t (surface_of l)).0 (to h (mass_outcomes l f p f t)), λ u. from ((unfit_exactly p t (surface_of l)).1 u) (mass_outcomes l f p f t))
  where
    to : mass_says l f p f t ≡ refuses_with 14 (f ∷ []) → Outcome l f p f t → all_finite p t (surface_of l) ≡ false
    to h (thirteen e q) = absurd (e refl)
    to h (eleven e at i q) = absurd (let w = sym s.good ∙ i in let z : ◌≡◌ {A = ℕ} 0 1 = cc in omega arith)
    to h (seven e m i o q) = absurd (let w = sym h ∙ q in let z : ◌≡◌ {A = ℕ} 14 7 = cc in omega arith)
    to h (fourteen e m i o q) = o
    to h (given e m i o q) = absurd (let w = sym h ∙ q in let z : ◌≡◌ {A = ℕ} 0 1 = cc in omega arith)

    from : all_finite p t (surface_of l) ≡ false → Outcome l f p f t → mass_says l f p f t ≡ refuses_with 14 (f ∷ [])
    from h (thirteen e q) = absurd (e refl)
    from h (eleven e at i q) = absurd (let w = sym s.good ∙ i in let z : ◌≡◌ {A = ℕ} 0 1 = cc in omega arith)
    from h (seven e m i o q) =
        let w : gives n ≡ gives m = sym s.good ∙ i in
        let x : n ≡ m = cc in
        absurd (let y = sym o ∙ ap (some_other l) (sym x) ∙ s.own in let z : ◌≡◌ {A = ℕ} 0 1 = cc in omega arith)
    from h (fourteen e m i o q) = q
    from h (given e m i o q) = false_is_not_true (sym h ∙ o)
