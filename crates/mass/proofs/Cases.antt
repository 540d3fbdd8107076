-- What the calls on a mass say, case by case. Assumes nothing.
--   judged_given    a mass, where all is finite
--   sample_bad, sample_other, sample_judged    by the verdict on the image, and by its tables
--   framed-on    at the exit of a `?` the refusal of the call is passed on
--   mapped_err    where a mapped result is an error, so was the result, by an error that the map takes there
use mathlib.Core.Path.{◌≡◌, refl, sym, ap, subst, ◌∙◌}
use mathlib.Core.Bool.{Bool, true, false}
use mathlib.Core.List.{List, [], ◌∷◌, ◌++◌}
use Prim.Native.Nat.{ℕ}
use native.Mathlib.Omega.{arith}
use Rattle.std.specs.Prelude.{Result, Ok, Err}
use Rattle.std.specs.Result.{IsErrAnd, MatchResult}
use lib.Ieee.{Float}
use Rattle.answers.specs.Says.{Says, refuses_with, gives, refused_if, and_then, number_of, carried_by}
use Rattle.image_rules.specs.Image.{image_says}
use Rattle.surface.specs.Mass.{mass_of}
use Rattle.surface.specs.Surface.{surface_of, some_other, all_finite}
use Rattle.mass.specs.declared.Sample.{Sample}
use Rattle.mass.specs.declared.FrameRefusal.{FrameRefusal}
use Rattle.mass.specs.Mass.{framed, framed_says, judged_says, finite_says, sample_says}

pub judged_given : (l : List ℕ) (s : Sample) (m : Float) → m ≡ mass_of s.pressure s.temperature (surface_of l) → all_finite s.pressure s.temperature (surface_of l) ≡ true → gives m ≡ finite_says l s
judged_given l s m q e = ap gives q ∙ sym (ap (λ (b : Bool). framed s.frame (judged_says b (mass_of s.pressure s.temperature (surface_of l)))) e)

-- what stands behind the verdict on the image
abbrev behind : List ℕ → Sample → ℕ → Says Float
behind l s n = refused_if (some_other l n) 7 (judged_says (all_finite s.pressure s.temperature (surface_of l)) (mass_of s.pressure s.temperature (surface_of l)))

pub sample_bad : (l : List ℕ) (s : Sample) (e : ℕ) (c : List ℕ) → image_says l ≡ refuses_with e c → refuses_with e (c ++ s.frame ∷ []) ≡ sample_says l s
sample_bad l s e c h = sym (ap (λ (i : Says ℕ). framed s.frame (and_then i (λ (n : ℕ). behind l s n))) h)

pub sample_other : (l : List ℕ) (s : Sample) (t : ℕ) → image_says l ≡ gives t → some_other l t ≡ true → refuses_with 7 (s.frame ∷ []) ≡ sample_says l s
sample_other l s t h o =
    sym (ap (λ (i : Says ℕ). framed s.frame (and_then i (λ (n : ℕ). behind l s n))) h
    ∙ ap (λ (b : Bool). framed s.frame (refused_if b 7 (judged_says (all_finite s.pressure s.temperature (surface_of l)) (mass_of s.pressure s.temperature (surface_of l))))) o)

pub sample_judged : (l : List ℕ) (s : Sample) (t : ℕ) → image_says l ≡ gives t → some_other l t ≡ false → finite_says l s ≡ sample_says l s
sample_judged l s t h o =
    sym (ap (λ (i : Says ℕ). framed s.frame (and_then i (λ (n : ℕ). behind l s n))) h
    ∙ ap (λ (b : Bool). framed s.frame (refused_if b 7 (judged_says (all_finite s.pressure s.temperature (surface_of l)) (mass_of s.pressure s.temperature (surface_of l))))) o)

-- ---- the exit of a `?`

pub framed-on : {A : Type 0} (r : Result A FrameRefusal) (e : FrameRefusal) → IsErrAnd r (λ y. y ≡ e) → framed_says r ≡ refuses_with (number_of e.refusal) (carried_by e.refusal ++ e.frame ∷ [])
framed-on (Ok a) e h = elim h [ ]
framed-on (Err y) e h = ap (λ (z : FrameRefusal). refuses_with (number_of z.refusal) (carried_by z.refusal ++ z.frame ∷ [])) h

pub mapped_err : {A E D : Type 0} (P : E → D → Type 0) (g : E → D) → ((e : E) (x : D) → P e x → x ≡ g e) → (r : Result A E) (m : Result A D) (d : D)
    → MatchResult r (λ x. m ≡ Ok x) (λ e. IsErrAnd m (P e)) → m ≡ Err d → (e : E) × (r ≡ Err e) × (d ≡ g e)
mapped_err P g h (Ok a) m d k q = absurd (let e = sym k ∙ q in let z : ◌≡◌ {A = ℕ} 0 1 = cc in omega arith)
mapped_err P g h (Err e) m d k q = (e, refl, h e d (subst (λ (x : Result _ _). IsErrAnd x (P e)) q k))
