-- What a join and a mass answer (02, section 3). Assumes nothing.
--   framed f s    a refusal names the frame, behind what it carries
--   join_says f p g t    of a pressure p of frame f and a temperature t of frame g: 13 unless the frames are equal; the sample
--   finite_says l s    of a sample on a surface: 14 unless both readings, every entry and the mass are finite; the mass
--   sample_says l s    11, with its offset; 7 if a table has another family or alphabet; 14; the mass
--   mass_says l f p g t    13, then these
--   framed_says r    what the result of a call means: a value, or why there is none and the frame
use Rattle.std.specs.Prelude.{Result, Ok, Err, Bool, not, List, [], ◌∷◌, ◌++◌, ℕ, eqb, Float}
use Rattle.answers.specs.Says.{Says, refuses_with, gives, refused_if, and_then, number_of, carried_by}
use Rattle.image_rules.specs.Image.{image_says}
use Rattle.surface.specs.Mass.{mass_of}
use Rattle.surface.specs.Surface.{surface_of, some_other, all_finite}
use Rattle.mass.specs.declared.Sample.{Sample}
use Rattle.mass.specs.declared.FrameRefusal.{FrameRefusal}

abbrev pub framed : {A : Type 0} → ℕ → Says A → Says A
framed f (refuses_with e c) = refuses_with e (c ++ f ∷ [])
framed f (gives a) = gives a

abbrev pub join_says : ℕ → Float → ℕ → Float → Says Sample
join_says f p g t = framed f (refused_if (not (eqb f g)) 13 (gives (record { frame = f; pressure = p; temperature = t })))

abbrev pub judged_says : Bool → Float → Says Float
judged_says ok m = refused_if (not ok) 14 (gives m)

abbrev pub finite_says : List ℕ → Sample → Says Float
finite_says l s = framed s.frame (judged_says (all_finite s.pressure s.temperature (surface_of l)) (mass_of s.pressure s.temperature (surface_of l)))

abbrev pub sample_says : List ℕ → Sample → Says Float
sample_says l s = framed s.frame (and_then (image_says l) (λ n. refused_if (some_other l n) 7 (judged_says (all_finite s.pressure s.temperature (surface_of l)) (mass_of s.pressure s.temperature (surface_of l)))))

abbrev pub mass_says : List ℕ → ℕ → Float → ℕ → Float → Says Float
mass_says l f p g t = and_then (join_says f p g t) (λ s. sample_says l s)

-- ---- what the result of a call means

abbrev pub framed_says : {A : Type 0} → Result A FrameRefusal → Says A
framed_says (Ok a) = gives a
framed_says (Err e) = refuses_with (number_of e.refusal) (carried_by e.refusal ++ e.frame ∷ [])
