-- What a join and a mass answer, case by case, and the frame that is named (02, section 3). Assumes nothing.
--   join_is_of_one_frame    a sample has both readings' values, and its frame is that of both
--   join_refuses_two_frames    a join is refused exactly if the frames differ, with 13 and the pressure's frame
--   Outcome, mass_outcomes    each answer of a mass, with what it depends on, in the order 13, 11, 7, 14
--   mass_is_of_one_frame    a mass that is given is that of two readings of one frame on a surface, by the sequence of rounded operations, and so are its bits
--   refusal_names_the_frame    every refusal names the pressure's frame last, and unless it is 13 the temperature's too
--   one_join, one_mass    no second outcome: two answers that say the same are the same
use Rattle.std.specs.Prelude.{Result, Ok, Err}
use mathlib.Core.Path.{◌≡◌, refl, sym, ap, ap₂, ◌∙◌}
use mathlib.Core.Bool.{Bool, true, false, not}
use mathlib.Core.Logic.{◌↔◌}
use mathlib.Core.List.{List, [], ◌∷◌, ◌++◌}
use Prim.Native.Nat.{ℕ}
use native.Mathlib.Omega.{arith}
use borrow.Author.Tests.{eqb-true, eqb-false, ne_eqb}
use lib.Dec.{eqb}
use lib.ListN.{length}
use lib.Ieee.{Float, binary64, to_bits}
use Rattle.answers.specs.declared.Refusal.{Refusal}
use Rattle.answers.specs.Says.{Says, refuses_with, refuses_at, gives, refused_if, and_then, number_of, carried_by}
use Rattle.answers.proofs.Says.{gives_same, gives_never}
use Rattle.outcomes.proofs.Outcomes.{one_refusal}
use Rattle.image_rules.specs.Image.{image_says}
use Rattle.image_rules.proofs.Local.{Shape, good, bad, check_shape}
use Rattle.surface.specs.Mass.{mass_of}
use Rattle.surface.specs.Surface.{surface_of, some_other, all_finite, Surface}
use Rattle.mass.specs.declared.Sample.{Sample}
use Rattle.mass.specs.declared.FrameRefusal.{FrameRefusal}
use Rattle.mass.specs.Mass.{framed, join_says, judged_says, mass_says, framed_says}

-- ---- a join

pub record OneFrame (f : ℕ) (p : Float) (g : ℕ) (t : Float) (s : Sample) : Type 0 where
  pub pressures : s.frame ≡ f
  pub temperatures : s.frame ≡ g
  pub pressure : s.pressure ≡ p
  pub temperature : s.temperature ≡ t

pub join_is_of_one_frame : (f : ℕ) (p : Float) (g : ℕ) (t : Float) (s : Sample) → join_says f p g t ≡ gives s → OneFrame f p g t s
join_is_of_one_frame f p g t s = by (eqb f g) refl
  where
    by : (b : Bool) → eqb f g ≡ b → framed f (refused_if (not b) 13 (gives (record { frame = f; pressure = p; temperature = t }))) ≡ gives s → OneFrame f p g t s
    by true e h =
        let q : ◌≡◌ {A = Sample} (record { frame = f; pressure = p; temperature = t }) s = cc in
        let x : f ≡ s.frame = ap (λ (y : Sample). y.frame) q in
        record { pressures = sym x; temperatures = sym x ∙ eqb-true f g e; pressure = sym (ap (λ (y : Sample). y.pressure) q); temperature = sym (ap (λ (y : Sample). y.temperature) q) }
    by false e h = absurd (let z : ◌≡◌ {A = ℕ} 0 1 = cc in omega arith)

pub join_refuses_two_frames : (f : ℕ) (p : Float) (g : ℕ) (t : Float) → (join_says f p g t ≡ refuses_with 13 (f ∷ [])) ↔ (f ≡ g → ⊥)
join_refuses_two_frames f p g t = (by (eqb f g) refl, λ h. simp (ne_eqb f g h))
  where
    by : (b : Bool) → eqb f g ≡ b → framed {A = Sample} f (refused_if (not b) 13 (gives (record { frame = f; pressure = p; temperature = t }))) ≡ refuses_with 13 (f ∷ []) → f ≡ g → ⊥
    by true e h = λ q. let z : ◌≡◌ {A = ℕ} 0 1 = cc in omega arith
    by false e h = eqb-false f g e

-- ---- a mass, case by case

pub data Outcome (l : List ℕ) (f : ℕ) (p : Float) (g : ℕ) (t : Float) : Type 0 where
  thirteen : (f ≡ g → ⊥) → mass_says l f p g t ≡ refuses_with 13 (f ∷ []) → Outcome l f p g t
  eleven : f ≡ g → (at : ℕ) → image_says l ≡ refuses_at 11 at → mass_says l f p g t ≡ refuses_with 11 (at ∷ f ∷ []) → Outcome l f p g t
  seven : f ≡ g → (n : ℕ) → image_says l ≡ gives n → some_other l n ≡ true → mass_says l f p g t ≡ refuses_with 7 (f ∷ []) → Outcome l f p g t
  fourteen : f ≡ g → (n : ℕ) → Surface l n → all_finite p t (surface_of l) ≡ false → mass_says l f p g t ≡ refuses_with 14 (f ∷ []) → Outcome l f p g t
  given : f ≡ g → (n : ℕ) → Surface l n → all_finite p t (surface_of l) ≡ true → mass_says l f p g t ≡ gives (mass_of p t (surface_of l)) → Outcome l f p g t

pub mass_outcomes : (l : List ℕ) (f : ℕ) (p : Float) (g : ℕ) (t : Float) → Outcome l f p g t
mass_outcomes l f p g t = frames (eqb f g) refl
  where
    ok : Bool
    ok = all_finite p t (surface_of l)

    m : Float
    m = mass_of p t (surface_of l)

    -- after the join, with the verdict on the image, the test of its tables and that of the numbers
    after : Says ℕ → Says Float
    after s = framed f (and_then s (λ n. refused_if (some_other l n) 7 (judged_says ok m)))

    joined : eqb f g ≡ true → mass_says l f p g t ≡ after (image_says l)
    joined e = simp e

    numbers : f ≡ g → (n : ℕ) → image_says l ≡ gives n → some_other l n ≡ false → mass_says l f p g t ≡ framed f (judged_says ok m) → (b : Bool) → ok ≡ b → Outcome l f p g t
    numbers e n i o h true q = given e n (record { good = i; own = o }) q (h ∙ ap (λ (x : Bool). framed f (judged_says x m)) q)
    numbers e n i o h false q = fourteen e n (record { good = i; own = o }) q (h ∙ ap (λ (x : Bool). framed f (judged_says x m)) q)

    tables : f ≡ g → (n : ℕ) → image_says l ≡ gives n → mass_says l f p g t ≡ framed f (refused_if (some_other l n) 7 (judged_says ok m)) → (b : Bool) → some_other l n ≡ b → Outcome l f p g t
    tables e n i h true q = seven e n i q (h ∙ ap (λ (x : Bool). framed f (refused_if x 7 (judged_says ok m))) q)
    tables e n i h false q = numbers e n i q (h ∙ ap (λ (x : Bool). framed f (refused_if x 7 (judged_says ok m))) q) ok refl

    image : eqb f g ≡ true → Shape (image_says l) → Outcome l f p g t
    image e (bad at i) = eleven (eqb-true f g e) at i (joined e ∙ ap after i)
    image e (good n i) = tables (eqb-true f g e) n i (joined e ∙ ap after i) (some_other l n) refl

    frames : (b : Bool) → eqb f g ≡ b → Outcome l f p g t
    frames true e = image e (check_shape l (length l))
    frames false e = thirteen (eqb-false f g e) (simp e)

-- ---- both readings come from the frame that is named

pub record MassOf (l : List ℕ) (f : ℕ) (p : Float) (g : ℕ) (t : Float) (m : Float) : Type 0 where
  pub one_frame : f ≡ g
  pub surface : (n : ℕ) × Surface l n
  pub numbers : all_finite p t (surface_of l) ≡ true
  pub sequence : m ≡ mass_of p t (surface_of l)
  pub bits : to_bits binary64 m ≡ to_bits binary64 (mass_of p t (surface_of l))

never : {A : Type 0} (a : A) (e : ℕ) (c : List ℕ) (s : Says A) → s ≡ refuses_with e c → s ≡ gives a → ⊥
never a e c s p q = let z : ◌≡◌ {A = ℕ} 0 1 = cc in omega arith

pub mass_is_of_one_frame : (l : List ℕ) (f : ℕ) (p : Float) (g : ℕ) (t m : Float) → mass_says l f p g t ≡ gives m → MassOf l f p g t m
mass_is_of_one_frame l f p g t m h = by (mass_outcomes l f p g t)
  where
    by : Outcome l f p g t → MassOf l f p g t m
    by (thirteen e q) = absurd (never m 13 (f ∷ []) (mass_says l f p g t) q h)
    by (eleven e at i q) = absurd (never m 11 (at ∷ f ∷ []) (mass_says l f p g t) q h)
    by (seven e n i o q) = absurd (never m 7 (f ∷ []) (mass_says l f p g t) q h)
    by (fourteen e n s o q) = absurd (never m 14 (f ∷ []) (mass_says l f p g t) q h)
    by (given e n s o q) =
        let x : gives m ≡ gives (mass_of p t (surface_of l)) = sym h ∙ q in
        let y : m ≡ mass_of p t (surface_of l) = cc in
        record { one_frame = e; surface = (n, s); numbers = o; sequence = y; bits = ap (to_bits binary64) y }

pub record RefusedOf (f g e : ℕ) (c : List ℕ) : Type 0 where
  pub pressures : (before : List ℕ) × (c ≡ before ++ f ∷ [])
  pub temperatures : (e ≡ 13 → ⊥) → f ≡ g
  pub two_frames : e ≡ 13 → f ≡ g → ⊥

refused-number : {A : Type 0} (s : Says A) (e d : ℕ) (c b : List ℕ) → s ≡ refuses_with d b → s ≡ refuses_with e c → (e ≡ d) × (c ≡ b)
refused-number s e d c b p q = (cc, cc)

pub refusal_names_the_frame : (l : List ℕ) (f : ℕ) (p : Float) (g : ℕ) (t : Float) (e : ℕ) (c : List ℕ) → mass_says l f p g t ≡ refuses_with e c → RefusedOf f g e c
refusal_names_the_frame l f p g t e c h = by (mass_outcomes l f p g t)
  where
    one : f ≡ g → (d : ℕ) → (d ≡ 13 → ⊥) → (b : List ℕ) → mass_says l f p g t ≡ refuses_with d (b ++ f ∷ []) → RefusedOf f g e c
    one o d x b q =
        let r = refused-number (mass_says l f p g t) e d c (b ++ f ∷ []) q h in
        record { pressures = (b, r.1); temperatures = λ _. o; two_frames = λ y _. x (sym r.0 ∙ y) }

    by : Outcome l f p g t → RefusedOf f g e c
    by (thirteen o q) =
        let r = refused-number (mass_says l f p g t) e 13 c (f ∷ []) q h in
        record { pressures = ([], r.1); temperatures = λ x. absurd (x r.0); two_frames = λ _. o }
    by (eleven o at i q) = one o 11 (λ x. omega arith) (at ∷ []) q
    by (seven o n i s q) = one o 7 (λ x. omega arith) [] q
    by (fourteen o n s x q) = one o 14 (λ x. omega arith) [] q
    by (given o n s x q) = absurd (never (mass_of p t (surface_of l)) e c (mass_says l f p g t) h q)

-- ---- no second outcome

empty_end : (d : List ℕ) (g : ℕ) → [] ≡ d ++ g ∷ [] → ⊥
empty_end [] g e = let z : ◌≡◌ {A = ℕ} 0 1 = cc in omega arith
empty_end (y ∷ d) g e = let z : ◌≡◌ {A = ℕ} 0 1 = cc in omega arith

end_same : (c d : List ℕ) (f g : ℕ) → c ++ f ∷ [] ≡ d ++ g ∷ [] → (c ≡ d) × (f ≡ g)
end_same [] [] f g e = (refl, cc)
end_same [] (y ∷ d) f g e = let z : [] ≡ d ++ g ∷ [] = cc in absurd (empty_end d g z)
end_same (x ∷ c) [] f g e = let z : c ++ f ∷ [] ≡ [] = cc in absurd (empty_end c f (sym z))
end_same (x ∷ c) (y ∷ d) f g e =
    let h : x ≡ y = cc in
    let r = end_same c d f g (cc) in (ap₂ (λ (a : ℕ) (b : List ℕ). a ∷ b) h r.0, r.1)

refused_once : (d e : Refusal) (f g : ℕ) → number_of d ≡ number_of e → carried_by d ++ f ∷ [] ≡ carried_by e ++ g ∷ [] → (d ≡ e) × (f ≡ g)
refused_once d e f g n c = let r = end_same (carried_by d) (carried_by e) f g c in (one_refusal d e n r.0, r.1)

one_framed : {A : Type 0} (a b : Result A FrameRefusal) → framed_says a ≡ framed_says b → a ≡ b
one_framed (Ok x) (Ok y) e = ap Ok (gives_same x y e)
one_framed (Ok x) (Err d) e = absurd (gives_never x (number_of d.refusal) (carried_by d.refusal ++ d.frame ∷ []) e)
one_framed (Err d) (Ok y) e = absurd (gives_never y (number_of d.refusal) (carried_by d.refusal ++ d.frame ∷ []) (sym e))
one_framed (Err d) (Err h) e =
    let r = refused_once d.refusal h.refusal d.frame h.frame (cc) (cc) in
    ap₂ (λ (x : Refusal) (f : ℕ). Err (record { refusal = x; frame = f })) r.0 r.1

pub one_mass : (a b : Result Float FrameRefusal) → framed_says a ≡ framed_says b → a ≡ b
one_mass a b e = one_framed a b e

pub one_join : (a b : Result Sample FrameRefusal) → framed_says a ≡ framed_says b → a ≡ b
one_join a b e = one_framed a b e
